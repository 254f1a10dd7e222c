-- Lists as sets: without repeats, and in order.
use Rattle.std.specs.Prelude.{Bool, not, List, [], ◌∷◌, filter, Contains, if◌then◌else◌}
use Rattle.std.specs.declared.cmp.Ordering.{Ordering}
use Rattle.std.specs.Ordering.{is_lt}

abbrev pub HasNoRepeats : {X : Type 0} → List X → Type 0
HasNoRepeats [] = Unit {0}
HasNoRepeats (x ∷ xs) = (Contains xs x → ⊥) × HasNoRepeats xs

-- each member once, at its first place
abbrev pub each_once : {X : Type 0} → (X → X → Bool) → List X → List X
each_once same [] = []
each_once same (x ∷ xs) = x ∷ filter (λ y. not (same x y)) (each_once same xs)

-- an ordered list with one more member
abbrev pub insert_by : {X : Type 0} → (X → X → Ordering) → X → List X → List X
insert_by cmp x [] = x ∷ []
insert_by cmp x (y ∷ ys) = if is_lt (cmp x y) then x ∷ y ∷ ys else y ∷ insert_by cmp x ys

abbrev pub sort_by : {X : Type 0} → (X → X → Ordering) → List X → List X
sort_by cmp [] = []
sort_by cmp (x ∷ xs) = insert_by cmp x (sort_by cmp xs)
