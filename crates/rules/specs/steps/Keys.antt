-- Keys that a change gives anew, or another value.
use Rattle.std.specs.Prelude.{Bool, not, ◌&&◌, List, bytes_eq, filter}
use Rattle.std.specs.List.{list_any}
use Rattle.base_types.specs.Texts.{Bytes}
use Rattle.base_types.specs.Values.{same_value}
use Rattle.base_types.specs.declared.value.Value.{Value}
use Rattle.rules.specs.AttrLists.{Attr}
use Rattle.rules.specs.declared.history.Op.{Op}
use Rattle.rules.specs.Bodies.{keys_of_body}
use Rattle.rules.specs.Lists.{each_once}
use Rattle.rules.specs.Versions.{keys_of}

-- some attribute gives the key a value other than this one
abbrev pub gives_another : Bytes → Value → List Attr → Bool
gives_another key value attrs =
    list_any (λ attr. bytes_eq attr.0 key && not (same_value value attr.1)) attrs

-- the keys of a change that none of these changes gives a value, each once
abbrev pub new_keys : List Op → Op → List Bytes
new_keys changes op =
    filter (λ key. not (list_any (bytes_eq key) (keys_of changes)))
    (each_once bytes_eq (keys_of_body op.body))
