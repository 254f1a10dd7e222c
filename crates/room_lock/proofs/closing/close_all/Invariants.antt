use Rattle.std.proofs.Common.{◌≡◌, ◌++◌}
use Rattle.std.specs.Prelude.{All, map}
use Rattle.std.specs.Arc.{arc_value}
use Rattle.std.specs.Map.{keys_of}
use Rattle.indexmap.specs.IndexMap.{keys}
use Rattle.room_lock.specs.Closing.{IsClosed}
use Rattle.room_lock.proofs.closing.close_all.Given as goal

abbrev pub invariant-loop-name : goal.invariant-loop-name
invariant-loop-name g l =
    (map (λ one. one.room) l.records.items ++ keys_of l.name-iterator ≡ keys l.fn.rooms)
    × All (λ one. IsClosed g.P.RoomHistories.limits (map arc_value one.entries.items) one.parts.items) l.records.items
