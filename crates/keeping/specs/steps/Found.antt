-- What asking for the file of a room gave.
use Rattle.room_core.specs.State.{DrawingState}
use Rattle.restore.specs.steps.Files.{FileView}
use Rattle.keeping.specs.declared.files.FileFound.{FileFound}
use Rattle.keeping.specs.declared.files.FileFound.TheVariants.{Here, Elsewhere, Absent, Unusable}

module _ {J : Type 0} where
  -- if the file is here, this holds of the room and its file
  abbrev pub IfHere : (DrawingState → FileView → Type 0) → FileFound J → Type 0
  IfHere Holds (Here state file later) = Holds state file
  IfHere Holds Elsewhere = Unit {0}
  IfHere Holds Absent = Unit {0}
  IfHere Holds Unusable = Unit {0}
