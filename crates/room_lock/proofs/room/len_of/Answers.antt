use Rattle.std.proofs.Common.{arith, ap}
use Rattle.room_lock.proofs.Answers.{short_if_legal}
use Rattle.room_lock.proofs.room.len_of.Goals as goal

pub returns-clause-short : goal.returns-clause-short
returns-clause-short c =
    let room = c.args.state.now.room in
    omega (arith, short_if_legal room.limits room.entries c.entries.ensures.legal, ap (λ l. l.entries) c.limits.ensures, c.entries-most.ensures.range)
