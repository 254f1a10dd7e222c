-- The kept groups.
use Rattle.std.specs.Prelude.{◌≡◌, ℕ, ◌<◌, Bool, ◌⊎◌, List, [], ◌∷◌, ◌++◌, length, slice_index_or}
use Rattle.std.specs.List.Sorted.{IsPermutation}
use Rattle.rules.specs.Groups.{groups_of}
use Rattle.places.specs.steps.PlaceSet.{places}

-- what a caller sees of them: how many places there are, and their groups
pub record Kept : Type 0 where
  pub ops : ℕ
  pub groups : List (List ℕ)

-- gs are the groups of s, each once, in some order
abbrev pub AreGroups : {X : Type 0} → (X → X → Bool) → List X → List (List X) → Type 0
AreGroups is_conflict s gs = IsPermutation gs (groups_of is_conflict s)

-- how many groups the first n places have
abbrev pub count_of_groups : (ℕ → ℕ → Bool) → ℕ → ℕ
count_of_groups is_conflict n = length (groups_of is_conflict (places n))

-- the groups of before stand first, in their order, each as it was or with place n behind it
abbrev pub HaveGrown : ℕ → List (List ℕ) → List (List ℕ) → Type 0
HaveGrown n old new = (i : ℕ) → i < length old
    → (slice_index_or new i [] ≡ slice_index_or old i [])
    ⊎ (slice_index_or new i [] ≡ slice_index_or old i [] ++ n ∷ [])
