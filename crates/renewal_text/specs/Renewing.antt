-- A record that is renewed.
use Rattle.std.specs.Prelude.{◌≡◌, List, ℕ, string_bytes}
use Rattle.rules.specs.declared.history.Entry.{Entry}
use Rattle.record_file.specs.RecordText.{record_text}
use Rattle.renewal.specs.Renewed.{IsShortRenewal}
use Rattle.restore.specs.Records.{AreRecord, IsBadRecord}
use Rattle.renewal_text.specs.declared.renewing.RenewedText.{RenewedText}
use Rattle.renewal_text.specs.declared.renewing.RenewedText.TheVariants.{Text, BadRecord, Declined}

-- the text of a renewal; or the first bad line; or a record is not renewed
abbrev pub IsRenewedText : List (List ℕ) → RenewedText → Type 0
IsRenewedText lines (Text text) =
    (old : List Entry) × (new : List Entry) × AreRecord lines old × IsShortRenewal old new
    × (string_bytes text ≡ record_text new)
IsRenewedText lines (BadRecord number) = IsBadRecord lines number
IsRenewedText lines (Declined reason) = (old : List Entry) × AreRecord lines old
