-- Where a line waits for news.
use Rattle.std.specs.declared.alloc.Global.{Global}
use Rattle.std.specs.Prelude.{◌≡◌, ◌≢◌, ℕ, Bool, true, false, Option, Some, None}
use Rattle.std.specs.Prelude.{List, Vec, length, slice_get}

-- the first, or else the second
abbrev pub first_place : Option ℕ → Option ℕ → Option ℕ
first_place (Some place) other = Some place
first_place None other = other

-- By whether a message is held and frames wait: with a held message at the session's room now, and
-- with frames at its room before. Else nowhere.
abbrev pub waiting_place : Bool → Bool → Option ℕ → Option ℕ → Option ℕ
waiting_place true waiting before now = first_place now before
waiting_place false true before now = first_place before now
waiting_place false false before now = None

-- The keys at this place go over to these, and those at the others stay.
abbrev pub GoesTo : ℕ → (List ℕ → List ℕ)
    → List (Vec ℕ Global) → List (Vec ℕ Global) → Type 0
GoesTo place step before after =
    (length after ≡ length before)
    × ((keys keys' : Vec ℕ Global) → slice_get before place ≡ Some keys
    → slice_get after place ≡ Some keys' → keys'.items ≡ step keys.items)
    × ((other : ℕ) → other ≢ place → slice_get after other ≡ slice_get before other)
