-- The rule of a history, and the effect of its step.
use Rattle.std.specs.Prelude.{ℕ, ◌≡◌, ◌==◌, true, List, [], ◌∷◌, ◌++◌, length, MatchBool}
use Rattle.logbook.specs.Pages.{Cell, Step, View, Book, Named}
use Rattle.rules.specs.declared.history.Entry.{Entry}

-- the first word is the number of entries; the second word of the book stays 0
abbrev pub CountsEntries : List Cell → List Entry → Type 0
CountsEntries cells log = cells ≡ (length log, true) ∷ (0, true) ∷ []

-- the word that counts the entries
abbrev pub entry_counter_of : Book → Named
entry_counter_of book = record { tracked = true; key = 0; book = book }

-- if the count was the expected one, the entry was appended to all that had been seen
abbrev pub Adds : Step Entry → View Entry ℕ → ℕ → View Entry ℕ → Type 0
Adds s before found after = MatchBool (found == s.old) (after.0 ≡ before.0 ++ s.ask ∷ []) (Unit {0})
