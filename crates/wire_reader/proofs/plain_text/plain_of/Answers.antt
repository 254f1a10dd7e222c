use Rattle.std.proofs.Common.{ℕ, List, subst, sym}
use Rattle.wire_reader.specs.steps.PlainTexts.{StandsInside}
use Rattle.wire_reader.proofs.PlainTexts.{run_kept}
use Rattle.wire_reader.proofs.plain_text.plain_of.Goals as goal

pub returns : goal.returns
returns c message stands =
    let before = c.args.text.now.items in
    let run = c.split_plain.result.0.now in
    let rest = c.split_plain.result.1.now in
    subst (λ (text : List ℕ). StandsInside message text rest) (sym c.in_ok-extend_from_slice.ensures.items)
    (run_kept message before rest run c.split_plain.ensures.plain (subst (StandsInside message before) c.split_plain.ensures.parts stands))
