-- What a relation of conflict keeps.
use Rattle.std.specs.Prelude.{◌≡◌, ℕ, ◌<◌, Bool, false, List, filter}
use Rattle.base_types.specs.Names.{Name}
use Rattle.rules.specs.Groups.{in_conflict_with}
use Rattle.places.specs.steps.PlaceSet.{places}

-- on the first n places conflict goes both ways, nothing is in conflict with itself, and no two
-- have one name
pub record IsRelation (n : ℕ) (name : ℕ → Name) (is_conflict : ℕ → ℕ → Bool) : Type 0 where
  pub both_ways : (i j : ℕ) → i < n → j < n → is_conflict i j ≡ is_conflict j i
  pub never_alone : (i : ℕ) → i < n → is_conflict i i ≡ false
  pub one_each : (i j : ℕ) → i < n → j < n → name i ≡ name j → i ≡ j

-- those of the first n places that are in conflict with one of them
abbrev pub places_in_conflict : (ℕ → ℕ → Bool) → ℕ → List ℕ
places_in_conflict is_conflict n = filter (in_conflict_with is_conflict (places n)) (places n)
