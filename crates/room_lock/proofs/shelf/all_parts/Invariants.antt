use Rattle.std.proofs.Common.{◌≡◌, ◌++◌, Some, map}
use Rattle.room_lock.proofs.shelf.all_parts.Given as goal

abbrev pub invariant-loop-place : goal.invariant-loop-place
invariant-loop-place g l =
    (goal.iterator-loop-place g).can_next l.place-iterator × (goal.iterator-loop-place g).is_finite l.place-iterator
    × (l.yielded ++ l.place-iterator.rest.items ≡ l.fn.shelf.items)
    × (map Some l.parts.items ≡ l.yielded)
