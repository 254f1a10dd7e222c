-- The beds in which threads sleep.
use Rattle.std.specs.Prelude.{◌≡◌, ◌≢◌, ℕ, Option, Some, None, List, All, take, slice_get, slice_set, MatchOption}
use Rattle.keeping.specs.declared.sleepers.Bed.{Bed}

-- The first bed in this state is in that one now, and the others stay. Without such a bed all stay.
abbrev pub FirstTurns : Bed → Bed → List Bed → Option ℕ → List Bed → Type 0
FirstTurns from to before found after =
    MatchOption found (All (λ bed. bed ≢ from) before × (after ≡ before))
    (λ place. All (λ bed. bed ≢ from) (take place before)
    × (slice_get before place ≡ Some from) × (after ≡ slice_set before place to))
