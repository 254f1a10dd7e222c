use Rattle.std.proofs.Common.{◌≤◌, sym, arith}
use Rattle.std.proofs.lemmas.Bool.Decides.{nat_tests}
use Rattle.wire_reader.proofs.PlainTexts.{high_character}
use Rattle.wire_reader.proofs.plain_text.is_plain.Goals as goal

pub returns-then-not-is_ascii : goal.returns-then-not-is_ascii
returns-then-not-is_ascii c =
    let high : 128 ≤ c.args.character = grind (arith, nat_tests, c.is_ascii.ensures, c.if-not-is_ascii.true) in
    rw c.if-not-is_ascii.true (sym (high_character c.args.character high))
