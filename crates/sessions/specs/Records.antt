-- The records of closed rooms, as they are printed.
use Rattle.std.specs.Prelude.{◌++◌, ◌∷◌, [], ℕ, All, List, Option, codes, length, map}
use Rattle.std.specs.Fmt.{decimal}
use Rattle.std.specs.List.{flat_map}
use Rattle.std.specs.Io.KnownBytes.{Appends}
use Rattle.base_types.specs.Texts.{Bytes}
use Rattle.rules.specs.declared.history.Entry.{Entry}
use Rattle.rules.specs.declared.limits.LimitValues.{LimitValues}
use Rattle.rules.specs.Records.{IsLegal}
use Rattle.room_lock.specs.Rooms.{IsListOf, RoomsView}
use Rattle.record_file.specs.RecordText.{record_text}

pub record NamedRecord : Type 0 where
  pub name : Bytes
  pub entries : List Entry

-- the line with the room's name and the number of entries, and the lines of the entries
abbrev pub record_lines : NamedRecord → List ℕ
record_lines room =
    (codes "room " ++ room.name ++ (32 ∷ decimal (length room.entries)) ++ 10 ∷ [])
    ++ record_text room.entries

-- a writer got the legal records of all rooms of the start, in order, and then of others
pub record PrintsRecords
    (limits : LimitValues) (rooms : RoomsView) (before after : Option (List ℕ)) : Type 0 where
  pub records : List NamedRecord
  pub names_are : IsListOf rooms (map (λ room. room.name) records)
  pub legal : All (λ room. IsLegal limits room.entries) records
  pub printed : Appends before after (flat_map record_lines records)
