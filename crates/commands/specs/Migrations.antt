-- What the program writes for a record that is rewritten.
use Rattle.std.specs.Prelude.{ℕ, List, codes, string_bytes}
use Rattle.wire.specs.Lines.{lines_of}
use Rattle.history_check.specs.declared.migration.Migrated.{Migrated}
use Rattle.history_check.specs.declared.migration.Migrated.TheVariants.{Text, BadRecord}
use Rattle.history_check.specs.Migration.{IsMigrated}
use Rattle.commands.specs.Checks.{numbered_line}
use Rattle.commands.specs.Reports.{Report}

-- the record's new text or the line of its first bad line, and the exit status
abbrev pub migrated_says : Migrated → List ℕ × ℕ
migrated_says (Text text) = (string_bytes text, 0)
migrated_says (BadRecord number) = (numbered_line (codes "bad record line ") number, 1)

-- what `migrate` writes for the bytes of a record
abbrev pub migrate_report : Report (List ℕ) Migrated
migrate_report = record { IsRight = λ entries. IsMigrated (lines_of entries); says = migrated_says }
