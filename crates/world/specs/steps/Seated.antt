-- Who is in a room as which site.
use Rattle.std.specs.Prelude.{ℕ, ◌≡◌, ◌≢◌, ◌↔◌, true, Some, None, ◌<◌, IfSome, List}
use Rattle.room_core.specs.Answers.{has_site}
use Rattle.world.specs.Alone.{Alone}
use Rattle.world.specs.declared.seats.Seat.{Seat}
use Rattle.world.specs.steps.State.{seat_of}

-- The sites of a room in use are those that sessions are in as, each by one session. No other site
-- has a note.
pub record IsSeated (alone : Alone) : Type 0 where
  -- a site is in use exactly where a session is in as it
  pub used : (site : ℕ) → (alone.in_use site ≡ true)
      ↔ ((session : ℕ) × (alone.site_of session ≡ Some site))
  -- no two sessions are in as one site
  pub apart : (site one other : ℕ) → alone.site_of one ≡ Some site → alone.site_of other ≡ Some site
      → one ≡ other
  -- a site in use has joined
  pub joined : (site : ℕ) → alone.in_use site ≡ true → has_site alone.room site ≡ true
  -- a site with a note is in use
  pub noted : (site : ℕ) → alone.notes site ≢ None → alone.in_use site ≡ true

-- each seat is in one of so many rooms
abbrev pub SeatsWithin : List (ℕ × Seat) → ℕ → Type 0
SeatsWithin seats count = (session : ℕ)
    → IfSome (seat_of seats session) (λ seat. seat.place < count)
