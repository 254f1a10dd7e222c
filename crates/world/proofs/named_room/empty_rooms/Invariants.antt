use Rattle.std.proofs.Common.{◌≡◌, take}
use Rattle.world.specs.steps.State.{empty_rooms}
use Rattle.world.proofs.named_room.empty_rooms.Given as goal

abbrev pub invariant-loop-name : goal.invariant-loop-name
invariant-loop-name l = l.rooms.items ≡ empty_rooms (take l.name-index l.names) l.limits
