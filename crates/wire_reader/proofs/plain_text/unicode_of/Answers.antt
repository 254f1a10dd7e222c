use Rattle.std.proofs.Common.{◌≡◌, ◌-◌, ℕ, drop, length, take, subst, sym, arith}
use Rattle.std.proofs.lemmas.List.{take_rest}
use Rattle.wire_reader.specs.steps.PlainTexts.{IsUnicode}
use Rattle.wire_reader.proofs.PlainTexts.{unicode_at}
use Rattle.wire_reader.proofs.plain_text.unicode_of.Goals as goal

pub returns : goal.returns
returns c =
    let bytes = c.args.bytes.now in
    let unit = c.in_ok-unit.unit in
    let same : c.in_ok-character.character ≡ unit = c.in_ok-character.ensures.value.1 in
    let found = unicode_at bytes unit (omega arith) (sym c.in_ok-unit.ensures) c.in_ok-character.ensures.cases in
    subst (λ (character : ℕ). IsUnicode character bytes (take (length bytes - 4) (drop 4 bytes))) (sym same) (subst (IsUnicode unit bytes) (sym (take_rest bytes 4)) found)
