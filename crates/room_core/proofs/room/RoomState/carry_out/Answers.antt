use Rattle.std.proofs.Common.{sym, ap, ◌∙◌}
use Rattle.std.specs.Prelude.{is_some}
use Rattle.room_core.proofs.Accepted.{mapped_some}
use Rattle.room_core.proofs.room.RoomState.carry_out.Goals as goal

pub returns-clause-added : goal.returns-clause-added
returns-clause-added c = c.is_some-is_added.ensures ∙ sym (mapped_some _ c.entry.result) ∙ ap is_some c.entry.ensures
