use Rattle.std.proofs.Common.{◌≡◌, Some, map}
use Rattle.std.specs.List.{range_with_len}
use Rattle.room_lock.specs.steps.Shelves.{whole_part}
use Rattle.room_lock.proofs.restoring.fill_shelf.Given as goal

abbrev pub invariant-loop-before : goal.invariant-loop-before
invariant-loop-before g l =
    l.shelf.items ≡ map (λ site. Some (whole_part l.whole.opening l.whole.entries site)) (range_with_len 1 l.before)
