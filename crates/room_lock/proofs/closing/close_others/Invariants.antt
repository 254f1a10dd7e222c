use Rattle.std.proofs.Common.{◌≡◌, ◌≤◌, ◌++◌, List, length, map}
use Rattle.std.specs.Prelude.{All}
use Rattle.std.specs.Arc.{arc_value}
use Rattle.base_types.specs.Texts.{Bytes}
use Rattle.room_lock.specs.Closing.{IsClosed}
use Rattle.room_lock.proofs.closing.close_others.Given as goal

abbrev pub invariant-loop-name : goal.invariant-loop-name
invariant-loop-name g l =
    (l.most ≡ l.fn.others) × (l.count ≤ l.fn.others)
    × ((names : List Bytes) × (length names ≡ l.count) × (map (λ one. one.room) l.records.items ≡ map (λ one. one.room) l.fn.records.items ++ names))
    × (All (λ one. IsClosed g.P.RoomHistories.limits (map arc_value one.entries.items) one.parts.items) l.fn.records.items
    → All (λ one. IsClosed g.P.RoomHistories.limits (map arc_value one.entries.items) one.parts.items) l.records.items)
