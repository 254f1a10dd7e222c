-- The result of reading a record's lines.
use Rattle.std.specs.Prelude.{◌≡◌, ℕ, Bool, true, false, List, Some}
use Rattle.rules.specs.declared.history.Entry.{Entry}
use Rattle.rules.specs.Limits.{full_limits}
use Rattle.rules.specs.Records.{admits}
use Rattle.wire_reader.specs.steps.Reads.{entry_read}
use Rattle.room_core.specs.Room.{Room, with_entry}
use Rattle.restore.specs.declared.record.Reading.{Reading}
use Rattle.restore.specs.declared.record.Reading.TheVariants as reading
use Rattle.restore.specs.Records.{AreRecord, IsBadRecord}

-- The room adds the line's entry, which may come next. Or the line is no entry that may come next.
abbrev pub TakesLine : Room → Room → List ℕ → Bool → Type 0
TakesLine old new line true =
    (entry : Entry) × (entry_read line ≡ Some entry)
    × (admits old.limits old.entries entry ≡ true) × (new ≡ with_entry old (Some entry))
TakesLine old new line false =
    (entry : Entry) → entry_read line ≡ Some entry → admits old.limits old.entries entry ≡ false

-- the result of reading all lines
abbrev pub IsReading : List (List ℕ) → Reading → Type 0
IsReading lines (reading.Room state) =
    AreRecord lines state.room.entries × (state.room.limits ≡ full_limits)
IsReading lines (reading.Bad number) = IsBadRecord lines number
