-- Sets of places, as rising lists.
use Rattle.std.specs.Prelude.{◌≡◌, ◌<◌, ◌≤◌, ℕ, Bool, true, Option, List, [], ◌∷◌, nat_lt, ◌==◌}
use Rattle.std.specs.Prelude.{if◌then◌else◌, All, MatchOption}
use Rattle.std.specs.List.{list_any, list_all, range_with_len}

-- the first n places
abbrev pub places : ℕ → List ℕ
places n = range_with_len 0 n

-- is x among the places?
abbrev pub has : List ℕ → ℕ → Bool
has xs x = list_any (λ y. y == x) xs

-- these places are below n
abbrev pub AreBelow : ℕ → List ℕ → Type 0
AreBelow n xs = (x : ℕ) → has xs x ≡ true → x < n

-- is each place of a in b?
abbrev pub is_within : List ℕ → List ℕ → Bool
is_within a b = list_all (has b) a

-- a rising list with one place more
abbrev pub with_place : ℕ → List ℕ → List ℕ
with_place x [] = x ∷ []
with_place x (y ∷ ys) =
    if nat_lt y x then y ∷ with_place x ys else if y == x then y ∷ ys else x ∷ y ∷ ys

-- a rising list with all the places of another list
abbrev pub with_places : List ℕ → List ℕ → List ℕ
with_places set [] = set
with_places set (x ∷ xs) = with_places (with_place x set) xs

-- the places of a list as a set
abbrev pub set_of : List ℕ → List ℕ
set_of xs = with_places [] xs

-- the lowest place of a list, or none where it is empty
abbrev pub IsLowest : Option ℕ → List ℕ → Type 0
IsLowest lowest xs = MatchOption lowest (xs ≡ []) (λ x. (has xs x ≡ true) × All (λ y. x ≤ y) xs)

-- a rising list with those of another list that pass a test
abbrev pub with_those : (ℕ → Bool) → List ℕ → List ℕ → List ℕ
with_those test set [] = set
with_those test set (x ∷ xs) = with_those test (if test x then with_place x set else set) xs
