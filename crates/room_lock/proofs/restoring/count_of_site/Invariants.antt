use Rattle.std.proofs.Common.{◌≡◌, ◌≤◌, map, take}
use Rattle.std.specs.Prelude.{count_by}
use Rattle.std.specs.Arc.{arc_value}
use Rattle.room_lock.specs.Sites.{is_of_site}
use Rattle.room_lock.proofs.restoring.count_of_site.Given as goal

abbrev pub invariant-loop-entry : goal.invariant-loop-entry
invariant-loop-entry l =
    (l.count ≡ count_by (is_of_site l.site) (map arc_value (take l.entry-index l.entries)))
    × (l.count ≤ l.entry-index)
