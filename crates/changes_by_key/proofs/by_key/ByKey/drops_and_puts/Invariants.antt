use Rattle.std.proofs.Common.{◌≡◌, ℕ, ◌<◌, ◌||◌, List, drop, length}
use Rattle.std.specs.List.{list_any}
use Rattle.rules.specs.declared.history.Op.{Op}
use Rattle.places.specs.steps.PlaceSet.{has}
use Rattle.changes_by_key.specs.steps.Indexes.{AreByKey, is_drop_or_gives, of_key}
use Rattle.places.specs.steps.PlaceSet.{AreBelow}
use Rattle.changes_by_key.proofs.by_key.ByKey.drops_and_puts.Given as goal

-- what is found so far with the puts of the keys to come is all
abbrev pub invariant-loop-at : goal.invariant-loop-at
invariant-loop-at l =
    ((ops : List Op) (place : ℕ) → AreByKey ops l.self → place < l.self.len
    → (has l.found place || list_any (λ pair. of_key ops pair.0 place) (drop l.at l.pairs)) ≡ is_drop_or_gives ops l.pairs place)
    × ((ops : List Op) → AreByKey ops l.self → AreBelow (length ops) l.found)
