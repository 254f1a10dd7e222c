-- The lines that began last.
use Rattle.std.specs.Prelude.{◌≡◌, ◌⊎◌, ◌<◌, ◌≤◌, ◌++◌, ◌∷◌, [], ℕ, List, Option, None, Some, length}

-- A line is added behind those that began before it. Where `most` lines are there, the oldest goes.
-- Where there is no memory, the line itself is given, and nothing is said of the others.
abbrev pub Follows : {A : Type 0} → ℕ → A → List A → List A → Option A → Type 0
Follows {A} most line old new gone =
    ((length old < most) × (new ≡ old ++ line ∷ []) × (gone ≡ None))
    ⊎ ((most ≤ length old) × (oldest : A) × (rest : List A) × (old ≡ oldest ∷ rest)
    × (new ≡ rest ++ line ∷ []) × (gone ≡ Some oldest))
    ⊎ (gone ≡ Some line)
