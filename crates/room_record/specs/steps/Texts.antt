-- Texts in one string, each with a comma behind it.
use Rattle.std.specs.Prelude.{◌≡◌, ℕ, List, [], ◌∷◌, ◌++◌, ◌+◌, ◌-◌, length, drop, take}
use Rattle.std.specs.List.{flat_map, join_by}

-- the texts with a comma behind each
abbrev pub with_commas : List (List ℕ) → List ℕ
with_commas = flat_map (λ text. text ++ 44 ∷ [])

-- where their commas end, when the first text begins at a place
abbrev pub ends_from : ℕ → List (List ℕ) → List ℕ
ends_from at [] = []
ends_from at (text ∷ texts) = (at + length text + 1) ∷ ends_from (at + length text + 1) texts

-- these bytes are the texts with a comma behind each, and these the ends of the commas
abbrev pub AreJoined : List ℕ → List ℕ → List (List ℕ) → Type 0
AreJoined joined ends texts = (joined ≡ with_commas texts) × (ends ≡ ends_from 0 texts)

-- the texts whose commas end at these places, when the first begins at a place
abbrev pub before_commas : ℕ → List ℕ → List ℕ → List (List ℕ)
before_commas at [] joined = []
before_commas at (end ∷ ends) joined = take (end - (at + 1)) (drop at joined) ∷ before_commas end ends joined

-- the texts with commas between them
abbrev pub between_commas : List (List ℕ) → List ℕ
between_commas = join_by (λ text. text) (44 ∷ [])
