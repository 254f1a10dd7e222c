-- A change that is planned.
use Rattle.std.specs.Prelude.{◌≡◌, ℕ, ◌<◌, List, length}
use Rattle.base_types.specs.Names.{Name}
use Rattle.rules.specs.Versions.{keys_of}
use Rattle.places.specs.steps.Changes.{Added, IsAddition}
use Rattle.shape.specs.steps.Kept.{AreNamedOf, Named}
use Rattle.shape.specs.steps.Objects.{changes_after, Stored}

-- the change with its places, the groups and the number of keys with it, and the identifiers of the
-- versions with it, in order
pub record Plan : Type 0 where
  pub addition : Added
  pub groups : Named
  pub keys : ℕ
  pub ids : List (List Name)

-- the plan is for this shape as it is, and there is memory to carry it out
pub record IsPlanned (s : Stored) (p : Plan) : Type 0 where
  pub addition : IsAddition s.object.creation.name s.object.changes p.addition
  pub groups_are : AreNamedOf (changes_after s.object p.addition.op) p.groups
  pub keys_are : p.keys ≡ length (keys_of (changes_after s.object p.addition.op))
  pub spare : 0 < s.spare
