-- A world as contracts see it.
use Rattle.std.specs.Prelude.{ℕ, ◌+◌, ◌==◌, Bool, false, List, [], map, Option, Some}
use Rattle.std.specs.Prelude.{None, option_map, slice_index_or, replicate, if◌then◌else◌}
use Rattle.std.specs.Map.{lookup}
use Rattle.base_types.specs.declared.op_name.TheConstants.{MAX_SITE}
use Rattle.rules.specs.declared.limits.LimitValues.{LimitValues}
use Rattle.wire.specs.Notes.{Notes, no_notes}
use Rattle.notes.specs.Notes.{NotePlaces, notes_at}
use Rattle.room_core.specs.Room.{Room, empty_room}
use Rattle.world.specs.declared.seats.Seat.{Seat}
use Rattle.world.specs.Alone.{Alone, Message}
use Rattle.world.specs.Rooms.{Rooms}

abbrev pub message_of : ℕ → List ℕ → Message
message_of session bytes = record { session = session; bytes = bytes }

-- a room under its name, for each site whether somebody is in as it, and the notes
pub record Named : Type 0 where
  pub name : List ℕ
  pub room : Room
  pub in_use : List Bool
  pub notes : NotePlaces

-- a world: its rooms in order, and the seat of each session that is in one
pub record WorldState : Type 0 where
  pub rooms : List Named
  pub seats : List (ℕ × Seat)

abbrev pub names_in : List Named → List (List ℕ)
names_in rooms = map (λ room. room.name) rooms

abbrev pub names_of : WorldState → List (List ℕ)
names_of state = names_in state.rooms

abbrev pub seat_of : List (ℕ × Seat) → ℕ → Option Seat
seat_of seats session = lookup (λ key. session == key) seats

-- what stands at a place past the last room
abbrev pub no_room : Room
no_room =
    empty_room
    (record { joins = 0; entries = 0; objects = 0; changes = 0; keys = 0; versions = 0; page = 0 })

-- the room at a place
abbrev pub rooms_in : List Named → List Room
rooms_in rooms = map (λ room. room.room) rooms

abbrev pub room_at : List Named → ℕ → Room
room_at rooms place = slice_index_or (rooms_in rooms) place no_room

-- is somebody in as a site, by such a list
abbrev pub is_used : List Bool → ℕ → Bool
is_used in_use site = slice_index_or in_use site false

-- the list where nobody is in
unfoldable pub no_sites : List Bool
no_sites = replicate (MAX_SITE + 1) false

-- no site is in use
abbrev pub no_site : ℕ → Bool
no_site site = false

-- the sites in use, of the room at a place
abbrev pub uses_in : List Named → List (ℕ → Bool)
uses_in rooms = map (λ room. is_used room.in_use) rooms

abbrev pub use_at : List Named → ℕ → ℕ → Bool
use_at rooms place = slice_index_or (uses_in rooms) place no_site

-- the notes, of the room at a place
abbrev pub notes_of_rooms : List Named → List Notes
notes_of_rooms rooms = map (λ room. notes_at room.notes) rooms

abbrev pub notes_of : List Named → ℕ → Notes
notes_of rooms place = slice_index_or (notes_of_rooms rooms) place no_notes

abbrev pub site_at : ℕ → Option Seat → Option ℕ
site_at place None = None
site_at place (Some seat) = if seat.place == place then Some seat.site else None

abbrev pub alone_at : WorldState → ℕ → Alone
alone_at state place = record {
  room = room_at state.rooms place;
  site_of = λ session. site_at place (seat_of state.seats session);
  in_use = use_at state.rooms place;
  notes = notes_of state.rooms place;
}

abbrev pub rooms_of : WorldState → Rooms
rooms_of state = record {
  inside = λ session. option_map (λ seat. seat.place) (seat_of state.seats session);
  alone = alone_at state;
}

-- rooms of these names, and nobody in them
abbrev pub empty_rooms : List (List ℕ) → LimitValues → List Named
empty_rooms names limits =
    map
    (λ name. record {
      name = name;
      room = empty_room limits;
      in_use = no_sites;
      notes = [];
    }) names

abbrev pub new_world : List (List ℕ) → LimitValues → WorldState
new_world names limits = record { rooms = empty_rooms names limits; seats = [] }
