-- How the groups of an object with a change more lie in memory. No public clause cites this module.
use Rattle.std.specs.Prelude.{ℕ, List, [], ◌∷◌, length}
use Rattle.base_types.specs.Names.{Name}
use Rattle.shape.specs.steps.Kept.{Named, named}
use Rattle.shape.specs.declared.planned.GroupsAfter.{GroupsAfter}
use Rattle.shape.specs.declared.planned.GroupsAfter.TheVariants.{One, Several}

-- a group alone, whose identifier has no names
abbrev pub alone : List ℕ → Named
alone g = named (record { ops = length g; groups = g ∷ [] }) ([] ∷ [])

-- the groups
abbrev pub groups_after : GroupsAfter → Named
groups_after (One group) = alone group
groups_after (Several several) = several.value.groups

-- the identifiers for a reply
abbrev pub ids_after : GroupsAfter → List (List Name)
ids_after (One group) = [] ∷ []
ids_after (Several several) = several.value.ids.items
