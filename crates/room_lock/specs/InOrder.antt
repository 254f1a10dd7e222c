-- Openings of rooms, some of which are open from the start, in the order of their names.
use Rattle.std.specs.Prelude.{◌≡◌, Contains, List, Some, bytes_eq, length, map, position}
use Rattle.std.specs.List.{range_with_len}
use Rattle.base_types.specs.Texts.{Bytes}
use Rattle.openings.specs.Openings.{OpeningView}
use Rattle.room_lock.specs.Rooms.{RoomsView}

abbrev pub opening_name : OpeningView → Bytes
opening_name opening = opening.room.name

-- an opening of the room of this name; of one open from the start, number and place are its name's
pub record IsOpeningFor (rooms : RoomsView) (name : Bytes) (opening : OpeningView) : Type 0 where
  pub name_is : opening_name opening ≡ name
  pub number_is : Contains rooms.names name
      → position (bytes_eq name) rooms.names ≡ Some opening.number
  pub place_is : Contains rooms.names name → opening.room.place ≡ opening.number

-- the rooms of these names were opened in order: by number and place each opening is at its name's
pub record AreInOrder (names : List Bytes) (openings : List OpeningView) : Type 0 where
  pub names_are : map opening_name openings ≡ names
  pub numbers_are : map (λ opening. opening.number) openings ≡ range_with_len 0 (length names)
  pub places_are : map (λ opening. opening.room.place) openings ≡ range_with_len 0 (length names)
