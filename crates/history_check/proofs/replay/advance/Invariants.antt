use Rattle.std.proofs.Common.{◌≡◌, map, take}
use Rattle.std.specs.Arc.{arc_value}
use Rattle.room_core.specs.Room.{full_room}
use Rattle.history_check.proofs.replay.advance.Given as goal

abbrev pub invariant-loop-place : goal.invariant-loop-place
invariant-loop-place l = l.room.room ≡ full_room (take l.place (map arc_value l.entries))
