-- What is kept beside the changes.
use Rattle.std.specs.Prelude.{◌≡◌, ℕ, ◌+◌, ◌<◌, Bool, false, List, length, map}
use Rattle.std.specs.Ordering.{is_lt}
use Rattle.base_types.specs.Names.{Name}
use Rattle.base_types.specs.VersionIds.{id_cmp}
use Rattle.rules.specs.declared.history.Op.{Op}
use Rattle.rules.specs.declared.version.Version.{Version}
use Rattle.rules.specs.Bodies.{initial_in, is_change_body}
use Rattle.rules.specs.Groups.{identifier}
use Rattle.rules.specs.Versions.{keys_of, shown_of}
use Rattle.places.specs.steps.PlaceSet.{places}
use Rattle.places.specs.steps.Changes.{at, is_conflict_of, AreChangesOn, Changes}
use Rattle.version_groups.specs.steps.Kept.{AreGroups, Kept}

-- gs are the groups of the places of all changes
abbrev pub AreGroupsOf : List Op → List (List ℕ) → Type 0
AreGroupsOf k gs = AreGroups (is_conflict_of k) (places (length k)) gs

-- the identifier of a group of the places of all changes
abbrev pub id_at : List Op → List ℕ → List Name
id_at k g = identifier (is_conflict_of k) (λ i. (at k i).name) (places (length k)) g

-- groups, and the identifiers that are kept for them
pub record Named : Type 0 where
  pub groups : Kept
  pub ids : List (List Name)

abbrev pub named : Kept → List (List Name) → Named
named groups ids = record { groups = groups; ids = ids }

-- is the first identifier less than the second?
abbrev pub is_less : List Name → List Name → Bool
is_less x y = is_lt (id_cmp x y)

-- they are the groups of the places of all changes, each with its identifier
pub record AreNamedOf (k : List Op) (named : Named) : Type 0 where
  pub covered : named.groups.ops ≡ length k
  pub groups_are : AreGroupsOf k named.groups.groups
  pub ids_are : named.ids ≡ map (id_at k) named.groups.groups

-- the same groups with their identifiers, in some order
pub record Reordered (old new : Named) : Type 0 where
  pub count : length new.ids ≡ length old.ids
  pub each : length new.ids ≡ length new.groups.groups
  pub stay : (k : List Op) → AreNamedOf k old → AreNamedOf k new

-- the changes l go on from k by one, and the conflicts of k stay as they are
pub record GoesOn (k l : List Op) : Type 0 where
  pub size : length l ≡ length k + 1
  pub same : (i : ℕ) → i < length k → at l i ≡ at k i
  pub conflicts : (i j : ℕ) → i < length k → j < length k
      → is_conflict_of k i j ≡ is_conflict_of l i j

-- the groups of all changes with their identifiers, and the number of different keys
pub record IsKept (creation : Op) (changes : Changes) (groups : Named) (keys : ℕ) : Type 0 where
  pub is_creation : is_change_body creation.body ≡ false
  pub object : changes.object ≡ creation.name
  pub changes_on : AreChangesOn changes.object changes.ops
  pub groups_are : AreNamedOf changes.ops groups
  pub keys_are : keys ≡ length (keys_of changes.ops)

-- a group of the places as it is shown
abbrev pub version_at : Op → List Op → List ℕ → Version
version_at creation k g = record {
  id = id_at k g;
  shown = shown_of (initial_in creation.body) (map (at k) g);
}
