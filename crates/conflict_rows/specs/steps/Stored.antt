-- What is stored with the changes on an object.
use Rattle.std.specs.Prelude.{◌≡◌, ◌<◌, ◌^◌, ℕ, true, List, map, length, Contains}
use Rattle.base_types.specs.Names.{Name, is_op_name}
use Rattle.rules.specs.declared.history.Op.{Op}
use Rattle.places.specs.steps.PlaceSet.{places}
use Rattle.places.specs.steps.Changes.{AreChangesOn, base_places, conflicting_places}
use Rattle.conflict_rows.specs.steps.Rows.{earlier_conflicts, places_with_earlier_conflict}

-- what is stored beside the changes: the places of each one's base, those of the earlier changes
-- that conflict with it, and at which places there are such; and the places of all that conflict
-- with some change
pub record AreStored (object : Name) (k : List Op) (bases rows : List (List ℕ))
    (late conflicting : List ℕ) : Type 0 where
  pub changes : AreChangesOn object k
  -- names are in range, so the changes are few
  pub named : (x : Op) → Contains k x → is_op_name x.name ≡ true
  pub few : length k < 2 ^ 32
  pub bases_are : bases ≡ map (base_places k) k
  pub rows_are : rows ≡ map (earlier_conflicts k) (places (length k))
  pub late_are : late ≡ places_with_earlier_conflict k
  pub conflicting_are : conflicting ≡ conflicting_places k
