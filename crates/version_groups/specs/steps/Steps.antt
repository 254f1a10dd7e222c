-- One place more, as the code goes: o is the place, and `compatible` tells which of those before it
-- are not in conflict with it.
use Rattle.std.specs.Prelude.{◌≡◌, ℕ, ◌<◌, Bool, true, false, length, slice_index_or, not, ◌||◌, if◌then◌else◌, List, [], ◌∷◌}
use Rattle.std.specs.Prelude.{◌++◌, map, filter}
use Rattle.std.specs.List.{list_any, list_all}
use Rattle.places.specs.steps.PlaceSet.{has, is_within}

-- is a place none of these?
abbrev pub is_none_of : List ℕ → ℕ → Bool
is_none_of xs x = not (has xs x)

-- a group in which nothing conflicts with o, with o; another as it is
abbrev pub group_after : (ℕ → Bool) → ℕ → List ℕ → List ℕ
group_after compatible o g = if list_all compatible g then g ++ o ∷ [] else g

-- what of g is compatible with o, with o
abbrev pub candidate : (ℕ → Bool) → ℕ → List ℕ → List ℕ
candidate compatible o g = filter compatible g ++ o ∷ []

-- the groups that are not all compatible with o
abbrev pub incompatible_groups : (ℕ → Bool) → List (List ℕ) → List (List ℕ)
incompatible_groups compatible gs = filter (λ g. not (list_all compatible g)) gs

-- what stands, and behind it a candidate that lies neither in that nor in a later candidate
abbrev pub with_candidate : List (List ℕ) → List ℕ → List (List ℕ) → List (List ℕ)
with_candidate done c cs =
    if list_any (is_within c) done || list_any (is_within c) cs then done else done ++ c ∷ []

-- the groups, and so with each candidate in turn
abbrev pub sift : List (List ℕ) → List (List ℕ) → List (List ℕ)
sift done [] = done
sift done (c ∷ cs) = sift (with_candidate done c cs) cs

-- the whole step
abbrev pub next_groups : (ℕ → Bool) → ℕ → List (List ℕ) → List (List ℕ)
next_groups compatible o gs =
    sift (map (group_after compatible o) gs)
    (map (candidate compatible o) (incompatible_groups compatible gs))

-- the group at i has all of xs, and no later group has
pub record IsLastWith (xs : List ℕ) (gs : List (List ℕ)) (i : ℕ) : Type 0 where
  pub inside : i < length gs
  pub has_all : is_within xs (slice_index_or gs i []) ≡ true
  pub is_last : (j : ℕ) → i < j → j < length gs → is_within xs (slice_index_or gs j []) ≡ false
