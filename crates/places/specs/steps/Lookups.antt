-- Where something stands in a list.
use Rattle.std.specs.Prelude.{◌≡◌, ◌<◌, ℕ, Option, MatchOption}

-- where a class stands, if it does
abbrev pub IsPlaceOf : {C : Type 0} → (ℕ → C) → ℕ → C → Option ℕ → Type 0
IsPlaceOf class size c found =
    MatchOption found ((i : ℕ) → i < size → class i ≡ c → ⊥) (λ i. (i < size) × (class i ≡ c))
