use Rattle.std.proofs.Common.{◌+◌, arith}
use Rattle.wire.proofs.Growing.{no_more, one_more}
use Rattle.wire.proofs.write.names.len_of_all.Goals as goal

pub overflow_add-len : goal.overflow_add-len
overflow_add-len c =
    let i = c.loop-name.name-index in
    let names = c.args.names.now in
    let more = one_more names i c.name-item.result c.loop-name-test.true c.name-item.is in
    let bound = no_more names (i + 1) in
    let few = c.requires in
    let one = c.len_of-len.ensures in
    let so_far = c.loop-name.invariant in
    omega (arith, more, bound, few, one, so_far)

pub loop-name-preserved : goal.loop-name-preserved
loop-name-preserved c =
    let i = c.loop-name.name-index in
    let names = c.args.names.now in
    let more = one_more names i c.name-item.result c.loop-name-test.true c.name-item.is in
    let one = c.len_of-len.ensures in
    let so_far = c.loop-name.invariant in
    omega (arith, more, one, so_far)
