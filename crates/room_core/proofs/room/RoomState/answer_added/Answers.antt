use Rattle.std.proofs.Common.{sym, subst}
use Rattle.room_core.specs.steps.Plans.{IsAdmitted}
use Rattle.room_core.proofs.room.RoomState.answer_added.Goals as goal

pub returns-clause-ready : goal.returns-clause-ready
returns-clause-ready c s can admitted = (c.take_ids.ensures.ready s can, subst (IsAdmitted s.room) (sym c.take_ids.ensures.entry) admitted)
