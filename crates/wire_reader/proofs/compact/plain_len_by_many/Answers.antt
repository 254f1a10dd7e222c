use Rattle.std.proofs.Common.{◌≡◌, ◌+◌, ◌-◌, ◌∙◌, sym, ap, drop, take, arith, true}
use Rattle.std.specs.List.{list_all, prefix_len}
use Rattle.std.proofs.lemmas.List.{length-drop, take_rest}
use Rattle.wire.specs.steps.Quoting.{is_plain_byte}
use Rattle.wire_reader.proofs.Plain.{all_passed, skipped}
use Rattle.wire_reader.proofs.compact.plain_len_by_many.Goals as goal

pub loop-len-preserved : goal.loop-len-preserved
loop-len-preserved c =
    let len = c.loop-len.len in
    let rest = drop len c.args.bytes.now in
    let within = c.loop-len.invariant.within in
    let left = length-drop len c.args.bytes.now in
    let many : len + 16 - len ≡ 16 = omega arith in
    let plain : list_all is_plain_byte (take 16 rest) ≡ true = ap (λ n. list_all is_plain_byte (take n rest)) (sym many) ∙ sym c.are_plain.ensures ∙ c.if-are_plain.true in
    let more = all_passed is_plain_byte 16 rest (omega (arith, left, within, c.loop-len-test.true)) plain in
    let all = skipped is_plain_byte len c.args.bytes.now c.loop-len.invariant.plain in
    record {
      plain = omega (arith, more, all);
      within = omega (arith, within, c.loop-len-test.true);
    }

pub returns-clause-plain : goal.returns-clause-plain
returns-clause-plain c =
    let len = c.loop-len.len in
    let bytes = c.args.bytes.now in
    ap (λ n. len + n) (c.plain_len_by_one.ensures.plain ∙ ap (prefix_len is_plain_byte) (take_rest bytes len)) ∙ sym (skipped is_plain_byte len bytes c.loop-len.invariant.plain)
