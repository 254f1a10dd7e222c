use Rattle.std.proofs.Common.{◌≡◌, ℕ, ◌<◌, ◌≤◌, true}
use Rattle.places.specs.steps.PlaceSet.{has}
use Rattle.places.specs.steps.PlaceSet.{AreBelow}
use Rattle.changes_by_key.proofs.by_key.ByKey.insert_unindexed.Given as goal

-- the places of before are there, and those from the first one on that were put in so far
abbrev pub invariant-loop-place : goal.invariant-loop-place
invariant-loop-place l =
    ((p : ℕ) → has l.initial.members p ≡ true → has l.members p ≡ true) × ((p : ℕ) → l.self.len ≤ p → p < l.place → has l.members p ≡ true)
    × (AreBelow l.count l.initial.members → AreBelow l.count l.members)
