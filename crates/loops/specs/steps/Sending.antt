-- What is sent of the bytes that wait.
use Rattle.std.specs.Prelude.{◌≡◌, ℕ, ◌≤◌, List, Option, Result, MatchResult, length, take, drop}
use Rattle.std.specs.Io.KnownBytes.{Appends, Keeps}

-- the stream took the first bytes that waited, and the others wait still
abbrev pub Sends : {E : Type 0} → Option (List ℕ) → Option (List ℕ)
    → List ℕ → List ℕ → Result ℕ E → Type 0
Sends contents contents' waiting waiting' result =
    MatchResult result
    (λ count. (count ≤ length waiting)
    × Appends contents contents' (take count waiting)
    × (waiting' ≡ drop count waiting))
    (λ _. Keeps contents contents' × (waiting' ≡ waiting))
