-- What a room shows of an object: the maximal compatible groups of its changes.
use Rattle.std.specs.Prelude.{◌≡◌, ◌↔◌, ℕ, List, length, map, Contains, Some}
use Rattle.std.specs.List.Sorted.{IsPermutation, IsStrictlySortedBy}
use Rattle.base_types.specs.Names.{Name}
use Rattle.base_types.specs.Texts.{Bytes}
use Rattle.base_types.specs.VersionIds.{id_cmp}
use Rattle.rules.specs.declared.history.Op.{Op}
use Rattle.rules.specs.declared.version.Version.{Version}
use Rattle.rules.specs.Bodies.{kind_of_body}
use Rattle.rules.specs.Lists.{HasNoRepeats}
use Rattle.rules.specs.Operations.{creation_of, changes_on}
use Rattle.rules.specs.Groups.{IsGroup}
use Rattle.rules.specs.Conflicts.{conflict}
use Rattle.rules.specs.Versions.{version_of}
use Rattle.rules.specs.Records.{operations}
use Rattle.room_core.specs.Room.{Room}

-- the versions of an object: one for each maximal compatible group of its changes, each group once
pub record AreVersionsOf (h : List Op) (object : Name) (versions : List Version) : Type 0 where
  pub groups : List (List Op)
  pub maximal : (g : List Op) → Contains groups g ↔ IsGroup (conflict h) (changes_on h object) g
  pub once : HasNoRepeats groups
  pub shown : IsPermutation (map (version_of h object) groups) versions
  pub rising : IsStrictlySortedBy id_cmp (map (λ version. version.id) versions)

-- the room has so many entries, and in them this object
pub record HasObject (room : Room) (at : ℕ) (object : Name) (kind : Bytes)
    (versions : List Version) : Type 0 where
  pub at_end : at ≡ length room.entries
  pub creation : Op
  pub created : creation_of (operations room.entries) object ≡ Some creation
  pub of_kind : kind ≡ kind_of_body creation.body
  pub versions_are : AreVersionsOf (operations room.entries) object versions
