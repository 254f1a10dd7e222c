use Rattle.std.proofs.Common.{◌≡◌, drop, sym, ◌∙◌, ap, Some, FitsSigned, pos, to_z, of_z, arith, take_all, length-drop}
use Rattle.std.specs.Int.{w64}
use Rattle.std.proofs.lemmas.Int.{to_z-of_z}
use Rattle.fast_float.specs.Text.{scan}
use Rattle.serde_json.specs.Read.{number_of}
use Rattle.std.specs.Prelude.{option_and_then}
use Rattle.wire_reader.specs.steps.Reading.{integer_at}
use Rattle.wire_reader.proofs.Digits.{integer_of_digits}
use Rattle.wire_reader.proofs.Tokens.{integer_of_text, integer_of_minus}
use Rattle.wire_reader.proofs.token.integer_in_text.Goals as goal

pub returns-then-has_minus : goal.returns-then-has_minus
returns-then-has_minus c =
    let s = c.as_bytes-digits.result.now in
    let parts : c.scan.result ≡ scan (drop 1 s) = c.scan.ensures.parts ∙ ap scan (take_all _ (drop 1 s) (omega (arith, length-drop 1 s))) in
    c.below_zero.ensures ∙ integer_of_minus s c.to_i64.result (sym c.if-has_minus.ensures.value) (rw parts at c.to_i64.ensures)
    ∙ ap (λ s. option_and_then integer_at (number_of s)) c.as_bytes-digits.ensures.value

pub returns-else-has_minus : goal.returns-else-has_minus
returns-else-has_minus c =
    integer_of_text c.as_bytes-digits.result.now c.to_i64-else-has_minus.result (sym c.if-has_minus.ensures.value) (rw c.scan-else-has_minus.ensures.parts at c.to_i64-else-has_minus.ensures)
    ∙ ap (λ s. option_and_then integer_at (number_of s)) c.as_bytes-digits.ensures.value

pub returns-in-Some : goal.returns-in-Some
returns-in-Some c =
    let fit : FitsSigned w64 (pos c.in-Some.number) = omega arith in
    ap (λ z. Some (to_z w64 (of_z w64 z))) c.from.ensures
    ∙ ap Some (to_z-of_z w64 (pos c.in-Some.number) fit)
    ∙ integer_of_digits c.as_bytes-digits.result.now c.in-Some.ensures.digits c.in-Some.number c.in-Some.ensures.number (omega arith)
    ∙ ap (λ s. option_and_then integer_at (number_of s)) c.as_bytes-digits.ensures.value
