-- What opening a room's file gave.
use Rattle.room_core.specs.State.{DrawingState}
use Rattle.restore.specs.steps.Files.{FileView}
use Rattle.room_folder.specs.declared.open_room.RoomFound.{RoomFound}
use Rattle.room_folder.specs.declared.open_room.RoomFound.TheVariants.{Here, Elsewhere, Absent, Bad, Unusable}

-- if the room is here, this holds of it and its file
abbrev pub IfHere : (DrawingState → FileView → Type 0) → RoomFound → Type 0
IfHere Holds (Here state file later) = Holds state file
IfHere Holds Elsewhere = Unit {0}
IfHere Holds Absent = Unit {0}
IfHere Holds (Bad line) = Unit {0}
IfHere Holds Unusable = Unit {0}
