-- Two records that are compared.
use Rattle.std.specs.Prelude.{◌≡◌, ◌≢◌, List, ℕ}
use Rattle.rules.specs.declared.history.Entry.{Entry}
use Rattle.renewal.specs.Drawn.{drawn}
use Rattle.restore.specs.Records.{AreRecord, IsBadRecord}
use Rattle.renewal_text.specs.declared.comparing.Comparison.{Comparison}
use Rattle.renewal_text.specs.declared.comparing.Comparison.TheVariants.{Holds, BadRecord}
use Rattle.renewal_text.specs.declared.comparing.Comparison.TheVariants.{BadNewRecord, Differs}

-- the lines of both are records, of which this is true
abbrev pub OfRecords : List (List ℕ) → List (List ℕ) → (List Entry → List Entry → Type 0) → Type 0
OfRecords old_lines new_lines P =
    (old : List Entry) × (new : List Entry) × AreRecord old_lines old × AreRecord new_lines new
    × P old new

-- both records draw the same; or one has this bad line; or they draw something different
abbrev pub IsComparison : List (List ℕ) → List (List ℕ) → Comparison → Type 0
IsComparison old_lines new_lines Holds =
    OfRecords old_lines new_lines (λ old new. drawn new ≡ drawn old)
IsComparison old_lines new_lines (BadRecord number) = IsBadRecord old_lines number
IsComparison old_lines new_lines (BadNewRecord number) =
    (old : List Entry) × AreRecord old_lines old × IsBadRecord new_lines number
IsComparison old_lines new_lines Differs =
    OfRecords old_lines new_lines (λ old new. drawn new ≢ drawn old)
