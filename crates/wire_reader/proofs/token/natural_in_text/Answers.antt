use Rattle.std.proofs.Common.{sym, ◌∙◌, ap, Some, arith}
use Rattle.serde_json.specs.Find.{as_u64}
use Rattle.serde_json.specs.Read.{number_of}
use Rattle.std.specs.Prelude.{option_and_then}
use Rattle.wire_reader.proofs.Digits.{natural_of_digits}
use Rattle.wire_reader.proofs.Tokens.{natural_of_text, natural_of_minus}
use Rattle.wire_reader.proofs.token.natural_in_text.Goals as goal

pub returns-then-has_minus : goal.returns-then-has_minus
returns-then-has_minus c =
    natural_of_minus c.as_bytes-digits.result.now (sym c.if-has_minus.ensures.value) ∙ ap (λ s. option_and_then as_u64 (number_of s)) c.as_bytes-digits.ensures.value

pub returns-else-has_minus : goal.returns-else-has_minus
returns-else-has_minus c =
    natural_of_text c.as_bytes-digits.result.now c.to_u64.result (sym c.if-has_minus.ensures.value) (rw c.scan.ensures.parts at c.to_u64.ensures)
    ∙ ap (λ s. option_and_then as_u64 (number_of s)) c.as_bytes-digits.ensures.value

pub returns-in-Some : goal.returns-in-Some
returns-in-Some c =
    ap Some c.from.ensures
    ∙ natural_of_digits c.as_bytes-digits.result.now c.in-Some.ensures.digits c.in-Some.number c.in-Some.ensures.number (omega arith)
    ∙ ap (λ s. option_and_then as_u64 (number_of s)) c.as_bytes-digits.ensures.value
