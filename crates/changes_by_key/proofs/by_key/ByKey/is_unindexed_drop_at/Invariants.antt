use Rattle.std.proofs.Common.{◌≡◌, ℕ, ◌<◌, ◌≤◌, true, false}
use Rattle.places.specs.steps.PlaceSet.{has}
use Rattle.changes_by_key.specs.steps.Indexes.{is_drop_at}
use Rattle.changes_by_key.proofs.by_key.ByKey.is_unindexed_drop_at.Given as goal

abbrev pub invariant-loop-place : goal.invariant-loop-place
invariant-loop-place l = (p : ℕ) → l.self.len ≤ p → p < l.place → is_drop_at l.ops p ≡ true → has l.members p ≡ false
