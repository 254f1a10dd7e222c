-- The versions of an object, one for each group of its changes (Sun and Chen, ACM TOCHI 9(1), 2002).
use Rattle.std.specs.Prelude.{Bool, not, ◌&&◌, ◌++◌, List, [], Option, Some, None, map, filter_map}
use Rattle.std.specs.Prelude.{flat_map, find, is_some, option_map, bytes_eq, if◌then◌else◌}
use Rattle.std.specs.List.{list_any}
use Rattle.std.specs.declared.cmp.Ordering.{Ordering}
use Rattle.std.specs.Ordering.{nat_cmp, on}
use Rattle.std.specs.Cmp.Lexicographic.{slice_cmp}
use Rattle.base_types.specs.Names.{Name}
use Rattle.base_types.specs.Texts.{Bytes}
use Rattle.base_types.specs.VersionIds.{id_cmp}
use Rattle.base_types.specs.declared.value.Value.{Value}
use Rattle.rules.specs.declared.history.Op.{Op}
use Rattle.rules.specs.declared.version.Shown.{Shown}
use Rattle.rules.specs.declared.version.Shown.TheVariants.{Attrs, Gone}
use Rattle.rules.specs.declared.version.Version.{Version}
use Rattle.rules.specs.AttrLists.{Attr, value_at}
use Rattle.rules.specs.Bodies.{initial_in, keys_of_body, value_of_body}
use Rattle.rules.specs.Lists.{each_once, sort_by}
use Rattle.rules.specs.Operations.{before, creation_of, holds_drop, name_of, changes_on}
use Rattle.rules.specs.Groups.{groups_of, identifier}
use Rattle.rules.specs.Conflicts.{conflict}

abbrev pub gives : Bytes → Op → Bool
gives key op = is_some (value_of_body key op.body)

-- the operation gives the key a value, and no later operation of g does
abbrev pub decides : Bytes → List Op → Op → Bool
decides key g op = gives key op && not (list_any (λ later. gives key later && before op later) g)

-- the value that an operation gives a key, or else the creation's
abbrev pub value_by : Bytes → List Attr → Option Op → Option Value
value_by key initial None = value_at key initial
value_by key initial (Some op) = value_of_body key op.body

-- the value of a key in g, on an object created with these attributes
abbrev pub value_of_key : List Attr → List Op → Bytes → Option Value
value_of_key initial g key = value_by key initial (find (decides key g) g)

abbrev pub keys_of : List Op → List Bytes
keys_of g = each_once bytes_eq (flat_map (λ op. keys_of_body op.body) g)

abbrev pub key_cmp : Attr → Attr → Ordering
key_cmp = on (λ attr. attr.0) (slice_cmp nat_cmp)

-- each key of the creation or of the group, with its value, in order of key
unfoldable pub attributes : List Attr → List Op → List Attr
attributes initial g =
    sort_by key_cmp
    (filter_map (λ key. option_map (λ value. (key, value)) (value_of_key initial g key))
    (each_once bytes_eq (map (λ attr. attr.0) initial ++ keys_of g)))

-- the attributes that a creation gives; none if there is no creation, which is never shown
abbrev pub initial_of : Option Op → List Attr
initial_of None = []
initial_of (Some op) = initial_in op.body

unfoldable pub groups : List Op → Name → List (List Op)
groups h object = groups_of (conflict h) (changes_on h object)

-- what is shown of a group on an object created with these attributes: with a drop it is gone
unfoldable pub shown_of : List Attr → List Op → Shown
shown_of initial g = if holds_drop g then Gone else Attrs (attributes initial g)

unfoldable pub version_of : List Op → Name → List Op → Version
version_of h object g =
    record {
      id = identifier (conflict h) name_of (changes_on h object) g;
      shown = shown_of (initial_of (creation_of h object)) g;
    }

abbrev pub by_id : Version → Version → Ordering
by_id = on (λ version. version.id) id_cmp

unfoldable pub versions : List Op → Name → List Version
versions h object = sort_by by_id (map (version_of h object) (groups h object))
