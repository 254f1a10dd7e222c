use Rattle.std.proofs.Common.{◌∙◌, ◌+◌, sym, ap, take, arith, inl, inr}
use Rattle.std.specs.List.{prefix_len}
use Rattle.std.proofs.lemmas.Bool.{cases_lt}
use Rattle.std.proofs.lemmas.List.{take_all, take_rest}
use Rattle.wire.specs.steps.Quoting.{is_plain_byte}
use Rattle.wire_reader.proofs.Plain.{front_passed, front_stopped, skipped}
use Rattle.wire_reader.proofs.compact.plain_len.Goals as goal

pub returns-then-len-lt-TOGETHER-clause-plain : goal.returns-then-len-lt-TOGETHER-clause-plain
returns-then-len-lt-TOGETHER-clause-plain c =
    let bytes = c.args.bytes.now in
    let most = c.min.result in
    let same = c.plain_len_by_one-len.ensures.plain in
    elim (cases_lt (prefix_len is_plain_byte (take most bytes)) most) [
      | inl few ↦ same ∙ front_stopped is_plain_byte most bytes few
      | inr all ↦ same ∙ ap (prefix_len is_plain_byte) (take_all most bytes (omega (arith, all, same)))
    ]

pub returns-clause-plain : goal.returns-clause-plain
returns-clause-plain c =
    let bytes = c.args.bytes.now in
    let len = c.plain_len_by_one-len.result in
    let same = c.plain_len_by_one-len.ensures.plain in
    let passed = front_passed is_plain_byte c.min.result bytes in
    ap (λ n. len + n) (c.plain_len_by_many.ensures.plain ∙ ap (prefix_len is_plain_byte) (take_rest bytes len)) ∙ sym (skipped is_plain_byte len bytes (omega (arith, same, passed)))
