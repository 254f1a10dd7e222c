use Rattle.std.proofs.Common.{ℕ, List, subst, sym}
use Rattle.wire_reader.specs.steps.PlainTexts.{StandsFor}
use Rattle.wire_reader.proofs.PlainTexts.{operator_kept}
use Rattle.wire_reader.proofs.plain_text.lexeme_of.Goals as goal

pub returns-in_ok-push-in-Some : goal.returns-in_ok-push-in-Some
returns-in_ok-push-in-Some c message stands =
    let before = c.args.text.now.items in
    let found = c.in-Some in
    let rest = found.rest.now in
    subst (λ (text : List ℕ). StandsFor message text rest) (sym c.in_ok-push-in-Some.ensures.items)
    (operator_kept message before rest found.mark.now (sym c.if-is_operator.ensures) (subst (StandsFor message before) found.ensures.cases.0 stands))
