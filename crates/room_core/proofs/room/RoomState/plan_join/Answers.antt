use Rattle.std.proofs.Common.{◌<◌, length, sym, subst, ◌∙◌}
use Rattle.drawing.specs.steps.State.{DrawingState}
use Rattle.room_core.proofs.Replay.{room_for_next}
use Rattle.room_core.proofs.room.RoomState.plan_join.Goals as goal

pub plan_join-requires : goal.plan_join-requires
plan_join-requires c =
    subst (λ (s : DrawingState). length s.room.entries < s.room.limits.entries) (sym c.self.view_is)
    (room_for_next c.args.self.now.room (sym c.join_refusal.ensures ∙ c.in_default.is))
