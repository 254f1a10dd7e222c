use Rattle.std.proofs.Common.{ap, sym, ◌∙◌}
use Rattle.room_lock.specs.steps.InOrder.{number_of}
use Rattle.room_lock.proofs.InOrder.{number_is_place}
use Rattle.room_lock.proofs.rooms.Rooms.lock.Goals as goal

pub agree-requires : goal.agree-requires
agree-requires g c =
    ap number_of (c.opening.ensures ∙ c.deref-room.ensures)
    ∙ number_is_place c.self.inside.rooms.entries c.self.invariant.0 c.number.result (c.in-Some._name.now, c.in-Some.room.now) (sym c.in-Some.ensures.entry)
    ∙ c.number.ensures
