use Rattle.std.proofs.Common.{List, ℕ, ◌-◌, ap, length, subst, sym, arith}
use Rattle.json.specs.Print.{IsNumber}
use Rattle.wire_reader.proofs.PlainTexts.{number_front}
use Rattle.wire_reader.proofs.compact.split_number.Goals as goal

pub returns-clause-number : goal.returns-clause-number
returns-clause-number c =
    let bytes = c.args.bytes.now in
    let same = ap (λ (s : List ℕ). length bytes - length s) c.cursor.view_is in
    subst IsNumber (sym c.split_at.ensures.front)
    (number_front bytes c.take.new.self c.number.new.self c.in_ok-number.field-0 _ c.take.result (omega arith) c.take.ensures.taken c.take.ensures.stays c.in_ok-number.ensures same)
