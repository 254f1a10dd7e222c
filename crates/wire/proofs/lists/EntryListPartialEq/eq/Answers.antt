-- Entries that are shared are compared as the entries themselves.
use Rattle.std.proofs.Common.{◌≡◌, List, [], ◌∷◌, map, Bool, refl, ap, ◌&&◌, rules}
use Rattle.std.specs.Arc.{arc_value}
use Rattle.std.specs.Cmp.Lexicographic.{pointwise}
use Rattle.rules.specs.steps.Equality.{same_entry}
use Rattle.wire.proofs.lists.EntryListPartialEq.eq.Goals as goal

pointwise-map : {X Y : Type 0} (E : Y → Y → Bool) (f : X → Y) (xs ys : List X) → pointwise (λ x y. E (f x) (f y)) xs ys ≡ pointwise E (map f xs) (map f ys)
pointwise-map E f [] [] = refl
pointwise-map E f [] (y ∷ ys) = refl
pointwise-map E f (x ∷ xs) [] = refl
pointwise-map E f (x ∷ xs) (y ∷ ys) = ap (λ b. E (f x) (f y) && b) (pointwise-map E f xs ys)

pub returns : goal.returns
returns c = search (pointwise-map same_entry arc_value c.self.inside.entries.items c.other.inside.entries.items, rules)
