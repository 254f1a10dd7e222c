use Rattle.std.proofs.Common.{ℕ, List, subst, sym}
use Rattle.wire_reader.specs.steps.PlainTexts.{StandsInside}
use Rattle.wire_reader.proofs.PlainTexts.{escape_kept}
use Rattle.wire_reader.proofs.plain_text.escape_of.Goals as goal

pub returns : goal.returns
returns c message stands =
    let character = c.in-Some.character in
    let rest = c.in-Some.rest.now in
    let written = c.in_ok-write_character.ensures in
    subst (λ (text : List ℕ). StandsInside message text rest) (sym written.0)
    (escape_kept message c.args.text.now.items rest character c.args.bytes.now c.in-Some.ensures written.1 stands)
