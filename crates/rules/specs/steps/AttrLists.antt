-- Equality of lists of attributes, as a test.
use Rattle.std.specs.Prelude.{Bool, List, bytes_eq}
use Rattle.std.specs.Ordering.{on, eq_of_both}
use Rattle.std.specs.Cmp.Lexicographic.{pointwise}
use Rattle.base_types.specs.Values.{same_value}
use Rattle.rules.specs.AttrLists.{Attr}

abbrev pub same_attrs : List Attr → List Attr → Bool
same_attrs = pointwise (eq_of_both (on (λ attr. attr.0) bytes_eq) (on (λ attr. attr.1) same_value))
