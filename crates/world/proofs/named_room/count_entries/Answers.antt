use Rattle.std.proofs.Common.{length, ap, arith}
use Rattle.std.specs.Arc.{arc_value}
use Rattle.std.proofs.lemmas.Bool.{le-leb}
use Rattle.std.proofs.lemmas.List.{length-map}
use Rattle.world.proofs.AnswerRanges.{short_if_legal}
use Rattle.world.proofs.named_room.count_entries.Goals as goal

pub overflow_cast-result : goal.overflow_cast-result
overflow_cast-result c =
    let room = c.args.state.now.room in
    let most = short_if_legal room c.limits.result c.limits.ensures c.entries-most.ensures.range c.entries.ensures.legal in
    let same = length-map c.entries.result.now arc_value in
    omega (arith, most, same, ap length c.entries.ensures.entries)

pub returns-clause-range : goal.returns-clause-range
returns-clause-range c =
    let room = c.args.state.now.room in
    let most = short_if_legal room c.limits.result c.limits.ensures c.entries-most.ensures.range c.entries.ensures.legal in
    let same = length-map c.entries.result.now arc_value in
    le-leb (length c.entries.result.now) 16384 (omega (arith, most, same, ap length c.entries.ensures.entries))
