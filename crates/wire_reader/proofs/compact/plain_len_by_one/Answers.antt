use Rattle.std.proofs.Common.{◌∙◌, sym, arith}
use Rattle.std.proofs.lemmas.List.Sums.{prefix_len-le-length}
use Rattle.wire.specs.steps.Quoting.{is_plain_byte}
use Rattle.wire_reader.proofs.Plain.{all_passed, stopped}
use Rattle.wire_reader.proofs.compact.plain_len_by_one.Goals as goal

pub returns-then-not-is_plain_byte-clause-plain : goal.returns-then-not-is_plain_byte-clause-plain
returns-then-not-is_plain_byte-clause-plain c =
    sym (stopped is_plain_byte c.loop-place.place c.args.bytes.now 0 c.loop-place-test.true c.loop-place.invariant (sym c.is_plain_byte.ensures ∙ c.if-not-is_plain_byte.true))

pub returns-clause-plain : goal.returns-clause-plain
returns-clause-plain c =
    let all = all_passed is_plain_byte c.loop-place.place c.args.bytes.now c.loop-place.auto.place-end c.loop-place.invariant in
    let most = prefix_len-le-length is_plain_byte c.args.bytes.now in
    omega (arith, all, most, c.loop-place-test.false)
