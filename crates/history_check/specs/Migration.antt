-- A record that is rewritten in the current forms.
use Rattle.std.specs.Prelude.{◌≡◌, List, ℕ, string_bytes}
use Rattle.rules.specs.declared.history.Entry.{Entry}
use Rattle.record_file.specs.RecordText.{record_text}
use Rattle.restore.specs.Records.{AreRecord, IsBadRecord}
use Rattle.history_check.specs.declared.migration.Migrated.{Migrated}
use Rattle.history_check.specs.declared.migration.Migrated.TheVariants.{Text, BadRecord}

-- the new text of the record, or the number of its first bad line
abbrev pub IsMigrated : List (List ℕ) → Migrated → Type 0
IsMigrated lines (Text text) =
    (r : List Entry) × AreRecord lines r × (string_bytes text ≡ record_text r)
IsMigrated lines (BadRecord number) = IsBadRecord lines number
