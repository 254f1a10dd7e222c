use Rattle.std.proofs.Common.{◌≡◌, ◌++◌, ◌∷◌, [], ◌∙◌, ℕ, List, ap, subst, sym}
use Rattle.wire_reader.specs.steps.PlainTexts.{StandsFor}
use Rattle.wire_reader.proofs.PlainTexts.{number_kept}
use Rattle.wire_reader.proofs.plain_text.number_of.Goals as goal

pub returns-in_ok-push-in-Some : goal.returns-in_ok-push-in-Some
returns-in_ok-push-in-Some c message stands =
    let before = c.args.text.now.items in
    let number = c.in_ok-number.number.now in
    let operator = c.in-Some.operator.now in
    let rest = c.in-Some.rest.now in
    let bytes : c.args.bytes.now ≡ number ++ operator ∷ rest = c.in_ok-number.ensures.parts ∙ ap (λ (s : List ℕ). number ++ s) c.in-Some.ensures.cases.0 in
    let items = c.in_ok-push-in-Some.ensures.items ∙ ap (λ (s : List ℕ). s ++ operator ∷ []) c.in_ok-extend_from_slice-in-Some.ensures.items in
    subst (λ (text : List ℕ). StandsFor message text rest) (sym items)
    (number_kept message before rest number operator c.in_ok-number.ensures.number (sym c.if-is_operator.ensures) (subst (StandsFor message before) bytes stands))
