-- Attributes in order of key, of which each key is kept once: where it comes first.
use Rattle.std.specs.Prelude.{List, [], ◌∷◌, flat_map, reverse, if◌then◌else◌}
use Rattle.std.specs.List.{list_any}
use Rattle.rules.specs.declared.history.Op.{Op}
use Rattle.rules.specs.AttrLists.{Attr, same_key}
use Rattle.rules.specs.Bodies.{pairs_of_body}
use Rattle.rules.specs.Lists.{insert_by}
use Rattle.rules.specs.Versions.{key_cmp}

-- with an attribute more, if its key isn't there yet
abbrev pub with_new : Attr → List Attr → List Attr
with_new attr attrs = if list_any (same_key attr) attrs then attrs else insert_by key_cmp attr attrs

-- with these, one after the other
abbrev pub with_new_attrs : List Attr → List Attr → List Attr
with_new_attrs attrs [] = attrs
with_new_attrs attrs (x ∷ xs) = with_new_attrs (with_new x attrs) xs

-- what changes give, the last one first
abbrev pub given_backwards : List Op → List Attr
given_backwards ops = flat_map (λ op. pairs_of_body op.body) (reverse ops)
