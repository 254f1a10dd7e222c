-- The result of restoring a room from its file.
use Rattle.std.specs.Prelude.{◌≡◌, ◌<◌, ◌≤◌, ℕ, List, length, take}
use mathlib.Core.List.{IsPrefix}
use Rattle.rules.specs.declared.history.Entry.{Entry}
use Rattle.rules.specs.Limits.{full_limits}
use Rattle.wire.specs.Lines.{lines_of}
use Rattle.record_file.specs.RecordText.{whole_lines}
use Rattle.restore.specs.declared.restored.Restored.{Restored}
use Rattle.restore.specs.declared.restored.Restored.TheVariants as restored
use Rattle.restore.specs.Records.{AreRecord, IsBadRecord}

-- The whole lines are the room's record. Or the line of this number is no entry that may come next.
abbrev pub IsRestored : List ℕ → Restored → Type 0
IsRestored bytes (restored.Room room whole) =
    AreRecord (lines_of (whole_lines bytes)) room.room.entries × (room.room.limits ≡ full_limits)
    × (take whole bytes ≡ whole_lines bytes) × (whole ≤ length bytes)
IsRestored bytes (restored.Bad number) = IsBadRecord (lines_of (whole_lines bytes)) number

-- the room's record begins with all that was told, or the bad line comes after its lines
abbrev pub HasAllOf : List Entry → Restored → Type 0
HasAllOf told (restored.Room room whole) = IsPrefix told room.room.entries
HasAllOf told (restored.Bad number) = length told < number
