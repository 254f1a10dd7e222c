use Rattle.std.proofs.Common.{◌≡◌, ℕ, ◌<◌, ◌≤◌, false}
use Rattle.changes_by_key.specs.steps.Indexes.{body_gives}
use Rattle.places.specs.steps.Changes.{at}
use Rattle.changes_by_key.proofs.by_key.ByKey.is_key_of_unindexed.Given as goal

abbrev pub invariant-loop-place : goal.invariant-loop-place
invariant-loop-place l = (p : ℕ) → l.self.len ≤ p → p < l.place → body_gives l.key (at l.ops p).body ≡ false
