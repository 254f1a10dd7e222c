-- A room, as contracts see it.
use Rattle.std.specs.Prelude.{List, [], ◌∷◌, ◌++◌, Option, Some, None, map}
use Rattle.base_types.specs.Names.{Name}
use Rattle.base_types.specs.Texts.{Bytes}
use Rattle.rules.specs.Bodies.{kind_of_body}
use Rattle.rules.specs.Records.{objects}
use Rattle.rules.specs.declared.limits.LimitValues.{LimitValues}
use Rattle.rules.specs.Limits.{full_limits}
use Rattle.rules.specs.declared.history.Entry.{Entry}

pub record Room : Type 0 where
  pub limits : LimitValues
  pub entries : List Entry

abbrev pub room_of : LimitValues → List Entry → Room
room_of limits entries = record { limits = limits; entries = entries }

abbrev pub with_entry : Room → Option Entry → Room
with_entry room None = room
with_entry room (Some entry) = record { limits = room.limits; entries = room.entries ++ entry ∷ [] }

abbrev pub empty_room : LimitValues → Room
empty_room limits = record { limits = limits; entries = [] }

abbrev pub full_room : List Entry → Room
full_room entries = record { limits = full_limits; entries = entries }

-- the objects of a record with their kinds, in order of creation
abbrev pub all_objects : List Entry → List (Name × Bytes)
all_objects r = map (λ op. (op.name, kind_of_body op.body)) (objects r)
