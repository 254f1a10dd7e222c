-- What a shape shows.
use Rattle.std.specs.Prelude.{◌≡◌, ℕ, false, filter, Contains, List, [], ◌∷◌, ◌++◌, Option, length}
use Rattle.std.specs.Prelude.{map, nat_le}
use Rattle.base_types.specs.Names.{Name}
use Rattle.rules.specs.declared.history.Op.{Op}
use Rattle.rules.specs.declared.refusal.Refusal.{Refusal}
use Rattle.rules.specs.declared.refusal.Refusal.TheVariants.{ObjectFull, TooManyKeys}
use Rattle.rules.specs.declared.version.Version.{Version}
use Rattle.rules.specs.declared.limits.LimitValues.{LimitValues}
use Rattle.rules.specs.Bodies.{is_change_body}
use Rattle.rules.specs.Operations.{is_change_on}
use Rattle.rules.specs.Admission.{first_that_applies}
use Rattle.rules.specs.Records.{has_too_many_keys, version_conditions}
use Rattle.rules.specs.Versions.{versions}
use Rattle.places.specs.steps.Changes.{AreChangesOf}

-- an object: the limits of its room, its creation, and the changes on it in order of arrival
pub record Object : Type 0 where
  pub limits : LimitValues
  pub creation : Op
  pub changes : List Op

-- and for how many more changes there is memory
pub record Stored : Type 0 where
  pub object : Object
  pub spare : ℕ

-- its operations
abbrev pub operations_of : Object → List Op
operations_of d = d.creation ∷ d.changes

-- its versions
abbrev pub shown_versions : Object → List Version
shown_versions d = versions (operations_of d) d.creation.name

-- and their identifiers
abbrev pub shown_ids : Object → List (List Name)
shown_ids d = map (λ version. version.id) (shown_versions d)

-- its changes with one change more
abbrev pub changes_after : Object → Op → List Op
changes_after d op = d.changes ++ op ∷ []

-- the object with one change more
abbrev pub with_change : Object → Op → Object
with_change d op = record { limits = d.limits; creation = d.creation; changes = changes_after d op }

-- the change may come next on the object
abbrev pub IsNextChange : Object → Op → Type 0
IsNextChange d op = AreChangesOf d.creation.name (changes_after d op)

-- it is an object of this history: its creation is there, and all changes on it
pub record IsOf (h : List Op) (d : Object) : Type 0 where
  pub created : is_change_body d.creation.body ≡ false
  pub there : Contains h d.creation
  pub all : filter (is_change_on d.creation.name) h ≡ d.changes

-- why a change on it is refused, if it is
unfoldable pub change_refusal : Object → Op → Option Refusal
change_refusal d op = first_that_applies (version_conditions d.limits (operations_of d) op)

-- why there is no room for it, if there is none: the object is full, or the changes have too many
-- keys
abbrev pub limit_refusal : Object → Op → Option Refusal
limit_refusal d op =
    first_that_applies
    ((nat_le d.limits.changes (length d.changes), ObjectFull)
    ∷ (has_too_many_keys d.limits d.changes op, TooManyKeys) ∷ [])
