-- What a room's file keeps.
use Rattle.std.specs.Prelude.{◌≡◌, ℕ, Bool, true, List, Option, IfSome}
use mathlib.Core.List.{IsPrefix}
use Rattle.rules.specs.declared.history.Entry.{Entry}
use Rattle.record_file.specs.RecordText.{AreLines}
use Rattle.room_lock.specs.Passes.{PrefixView}

-- The file keeps whole lines of these entries. If it is clean, nothing follows them.
abbrev pub IsInFile : Option (List ℕ) → Option (List ℕ) → List Entry → Bool → Type 0
IsInFile held kept entries clean =
    IfSome kept (λ bytes. AreLines bytes entries) × (clean ≡ true → held ≡ kept)

pub record IsKeptIn (kept reported : PrefixView) : Type 0 where
  pub opening_is : reported.opening ≡ kept.opening
  pub begins : IsPrefix reported.entries kept.entries
