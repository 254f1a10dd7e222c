-- What an identifier names among changes.
use Rattle.std.specs.Prelude.{Bool, not, List, filter}
use Rattle.std.specs.List.{list_any}
use Rattle.base_types.specs.Names.{Name, same_name}
use Rattle.rules.specs.Groups.{in_conflict_with}

-- the identifier has x's name
abbrev pub is_named : {X : Type 0} → (X → Name) → List Name → X → Bool
is_named name id x = list_any (same_name (name x)) id

-- the members of s that conflict with no member that the identifier names
abbrev pub compatible_with_named : {X : Type 0} → (X → X → Bool) → (X → Name) → List X → List Name
    → List X
compatible_with_named conflict name s id =
    filter (λ x. not (in_conflict_with conflict (filter (is_named name id) s) x)) s
