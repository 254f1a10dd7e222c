-- The identifiers of versions: strictly increasing lists of names.
use Rattle.std.specs.Prelude.{Bool, true, ◌&&◌, List, [], ◌∷◌}
use Rattle.std.specs.declared.cmp.Ordering.{Ordering}
use Rattle.std.specs.Ordering.{is_lt}
use Rattle.base_types.specs.Names.{Name, name_cmp, same_name}
use Rattle.std.specs.Cmp.Lexicographic.{slice_cmp, pointwise}

unfoldable pub names_rise : List Name → Bool
names_rise [] = true
names_rise (first ∷ []) = true
names_rise (first ∷ second ∷ others) = is_lt (name_cmp first second) && names_rise (second ∷ others)

-- identifiers are ordered as lists of names, a prefix first
abbrev pub id_cmp : List Name → List Name → Ordering
id_cmp = slice_cmp name_cmp

abbrev pub same_names : List Name → List Name → Bool
same_names = pointwise same_name
