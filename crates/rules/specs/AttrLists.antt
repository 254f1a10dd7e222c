-- Lists of attributes: keys with values.
use Rattle.std.specs.Prelude.{Bool, false, not, nat_lt, ◌==◌, List, length, Option, Some, find}
use Rattle.std.specs.Prelude.{option_map, is_none, bytes_eq, if◌then◌else◌}
use Rattle.std.specs.List.{list_any}
use Rattle.base_types.specs.Texts.{Bytes}
use Rattle.base_types.specs.Values.{same_value}
use Rattle.base_types.specs.Repeats.{first_repeat}
use Rattle.base_types.specs.declared.value.Value.{Value}
use Rattle.rules.specs.declared.attrs.AttrsFault.{AttrsFault}
use Rattle.rules.specs.declared.attrs.AttrsFault.TheVariants.{TooMany, Repeated}
use Rattle.rules.specs.declared.pairs.PairsFault.{PairsFault}
use Rattle.rules.specs.declared.pairs.PairsFault.TheVariants as pairs_faults

abbrev pub Attr : Type 0
Attr = Bytes × Value

abbrev pub value_at : Bytes → List Attr → Option Value
value_at key attrs = option_map (λ attr. attr.1) (find (λ attr. bytes_eq attr.0 key) attrs)

-- there are both values, and they differ
abbrev pub are_different : Option Value → Option Value → Bool
are_different (Some first) (Some second) = not (same_value first second)
are_different _ _ = false

-- two lists of attributes give some key different values
abbrev pub do_pairs_differ : List Attr → List Attr → Bool
do_pairs_differ first second =
    list_any (λ attr. are_different (value_at attr.0 first) (value_at attr.0 second)) first

abbrev pub same_key : Attr → Attr → Bool
same_key p q = bytes_eq p.0 q.0

-- the first fault of a creation's attributes
unfoldable pub attrs_fault : List Attr → Option AttrsFault
attrs_fault attrs =
    if nat_lt 16 (length attrs) then Some TooMany
    else option_map Repeated (first_repeat same_key attrs)

abbrev pub are_attrs : List Attr → Bool
are_attrs attrs = is_none (attrs_fault attrs)

-- the first fault of a put's attributes
unfoldable pub pairs_fault : List Attr → Option PairsFault
pairs_fault pairs =
    if length pairs == 0 then Some pairs_faults.Empty
    else (if nat_lt 16 (length pairs) then Some pairs_faults.TooMany
    else option_map pairs_faults.Repeated (first_repeat same_key pairs))

abbrev pub are_pairs : List Attr → Bool
are_pairs pairs = is_none (pairs_fault pairs)
