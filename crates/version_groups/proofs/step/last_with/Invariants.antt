use Rattle.std.proofs.Common.{◌≡◌, ◌<◌, ◌≤◌, ℕ, [], false, length, slice_index_or}
use Rattle.places.specs.steps.PlaceSet.{is_within}
use Rattle.version_groups.proofs.step.last_with.Given as goal

abbrev pub invariant-loop-left : goal.invariant-loop-left
invariant-loop-left l = (l.left ≤ length l.groups) × ((j : ℕ) → l.left ≤ j → j < length l.groups → is_within l.members (slice_index_or l.groups j []) ≡ false)

abbrev pub decreases-loop-left : goal.decreases-loop-left
decreases-loop-left l = l.left
