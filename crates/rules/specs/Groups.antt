-- Maximal compatible groups, for any relation of conflict, and their identifiers.
use Rattle.std.specs.Prelude.{◌≡◌, Bool, false, not, ◌&&◌, List, [], ◌∷◌, ◌++◌, map, filter, find}
use Rattle.std.specs.Prelude.{Option, ◌⊎◌, Contains, IsTrue}
use Rattle.std.specs.List.{list_any, list_all}
use Rattle.base_types.specs.Names.{Name, name_cmp}
use Rattle.base_types.specs.VersionIds.{same_names}
use Rattle.rules.specs.Lists.{sort_by}

-- each way to part a list in two: some of its members, and the rest
abbrev pub partings : {X : Type 0} → List X → List (List X × List X)
partings [] = ([], []) ∷ []
partings (x ∷ xs) =
    map (λ p. (x ∷ p.0, p.1)) (partings xs) ++ map (λ p. (p.0, x ∷ p.1)) (partings xs)

-- x conflicts with some member of g
abbrev pub in_conflict_with : {X : Type 0} → (X → X → Bool) → List X → X → Bool
in_conflict_with conflict g x = list_any (conflict x) g

-- no two of g conflict
abbrev pub is_compatible : {X : Type 0} → (X → X → Bool) → List X → Bool
is_compatible conflict g = list_all (λ x. not (in_conflict_with conflict g x)) g

-- each of the rest conflicts with some member of g
abbrev pub is_maximal : {X : Type 0} → (X → X → Bool) → List X → List X → Bool
is_maximal conflict g rest = list_all (in_conflict_with conflict g) rest

-- the groups of s: its maximal compatible parts; the empty list has one, the empty one
unfoldable pub groups_of : {X : Type 0} → (X → X → Bool) → List X → List (List X)
groups_of conflict s =
    map (λ p. p.0)
    (filter (λ p. is_compatible conflict p.0 && is_maximal conflict p.0 p.1) (partings s))

-- a group's identifier: the names of its members that conflict with some member of s, in order
unfoldable pub identifier : {X : Type 0} → (X → X → Bool) → (X → Name) → List X → List X → List Name
identifier conflict name s g = sort_by name_cmp (map name (filter (in_conflict_with conflict s) g))

-- the group of s with this identifier
unfoldable pub group_named : {X : Type 0} → (X → X → Bool) → (X → Name) → List X → List Name
    → Option (List X)
group_named conflict name s id =
    find (λ g. same_names (identifier conflict name s g) id) (groups_of conflict s)

-- g is s without some of its members
abbrev pub IsSublist : {X : Type 0} → List X → List X → Type 0
IsSublist g [] = g ≡ []
IsSublist {X} g (x ∷ s) = ((h : List X) × (g ≡ x ∷ h) × IsSublist h s) ⊎ IsSublist g s

-- g is a group of s: a maximal compatible part
pub record IsGroup {X : Type 0} (conflict : X → X → Bool) (s g : List X) : Type 0 where
  pub inside : IsSublist g s
  pub compatible : (x y : X) → Contains g x → Contains g y → conflict x y ≡ false
  pub maximal : (x : X) → Contains s x
      → Contains g x ⊎ ((y : X) × Contains g y × IsTrue (conflict x y))
