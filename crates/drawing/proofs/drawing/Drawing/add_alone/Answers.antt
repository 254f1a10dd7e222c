use Rattle.std.proofs.Common.{sym, subst}
use Rattle.std.specs.Arc.{arc_value}
use Rattle.drawing.specs.Room.{room_of}
use Rattle.drawing.specs.steps.Additions.{CanStandAlone}
use Rattle.drawing.proofs.Replay.{replay_alone}
use Rattle.drawing.proofs.drawing.Drawing.add_alone.Goals as goal

pub invariant_of-self : goal.invariant_of-self
invariant_of-self c =
    let can = subst (λ s. CanStandAlone s (arc_value c.args.entry)) (sym c.self.view_is) c.requires in
    let room = room_of c.self.inside.limits c.self.inside.record.entries in
    rw c.push_reserved.ensures
    (replay_alone room _ _ c.self.invariant (arc_value c.args.entry) can.alone can.short)
