-- The rule of the register, and the effect of its step.
use Rattle.std.specs.Prelude.{ℕ, ◌≡◌, ◌==◌, true, List, [], ◌∷◌, ◌++◌, length, MatchBool}
use Rattle.logbook.specs.Pages.{Cell, Step, View, Book, Named}
use Rattle.openings.specs.Openings.{Opened}

-- the first word is the number of openings; the second word of the book stays 0
abbrev pub CountsOpenings : List Cell → List Opened → Type 0
CountsOpenings cells log = cells ≡ (length log, true) ∷ (0, true) ∷ []

-- the word that counts the openings
abbrev pub opening_counter_of : Book → Named
opening_counter_of book = record { tracked = true; key = 0; book = book }

-- if the count was the expected one, the room was entered behind all that had been seen
abbrev pub Enters : Step Opened → View Opened ℕ → ℕ → View Opened ℕ → Type 0
Enters s before found after = MatchBool (found == s.old) (after.0 ≡ before.0 ++ s.ask ∷ []) (Unit {0})
