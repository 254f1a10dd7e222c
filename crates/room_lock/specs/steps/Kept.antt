-- The invariant of a room. It holds whenever the room's lock is free.
use Rattle.std.specs.Prelude.{◌≡◌, List}
use Rattle.rules.specs.declared.history.Entry.{Entry}
use Rattle.rules.specs.declared.limits.LimitValues.{LimitValues}
use Rattle.shared_history.specs.steps.Fronts.{FrontView}
use Rattle.openings.specs.Openings.{OpeningView}
use Rattle.notes.specs.Notes.{NotePlaces}
use Rattle.room_core.specs.Room.{Room}
use Rattle.room_lock.specs.Shelves.{Shelf, IsShelfOf}

-- a room: its opening, its record, the parts of the sites that no session is in as, and the notes
pub record RoomView : Type 0 where
  pub opening : OpeningView
  pub entries : List Entry
  pub shelf : Shelf
  pub notes : NotePlaces

-- the front is that prefix of the history of this opening which has these entries
abbrev pub IsFrontOf : OpeningView → FrontView → List Entry → Type 0
IsFrontOf opening front entries =
    (front.history ≡ opening.room.history) × (front.entries ≡ entries)

-- The history of the room's opening is its record. Each site that has joined has a place on the
-- shelf.
pub record IsRoomKept
    (limits : LimitValues) (opening : OpeningView) (room : Room) (front : FrontView)
    (shelf : Shelf) : Type 0 where
  pub written : IsFrontOf opening front room.entries
  pub limits_are : room.limits ≡ limits
  pub shelved : IsShelfOf opening room.entries shelf
