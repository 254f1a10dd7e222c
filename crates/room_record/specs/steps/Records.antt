-- A record with texts of its entries.
use Rattle.std.specs.Prelude.{◌≡◌, ℕ, List, length, map, take}
use Rattle.rules.specs.declared.history.Entry.{Entry}
use Rattle.wire.specs.steps.Forms.{entry_text}

-- a record, and for how many more entries there is memory
pub record RecordState : Type 0 where
  pub entries : List Entry
  pub spare : ℕ

-- these are the texts of the first entries
abbrev pub AreTexts : List (List ℕ) → List Entry → Type 0
AreTexts texts entries = texts ≡ take (length texts) (map entry_text entries)
