-- The names of rooms on the command line.
use Rattle.std.specs.Prelude.{ℕ, List, map, Option, Some, option_map, bytes_eq, if◌then◌else◌}
use Rattle.std.specs.Borrow.{Bor}
use Rattle.std.specs.List.{list_all}
use Rattle.base_types.specs.RoomNames.{is_first_name}
use Rattle.base_types.specs.Repeats.{first_repeat}
use Rattle.command_fault.specs.declared.fault.Fault.{Fault}
use Rattle.command_fault.specs.declared.fault.Fault.TheVariants.{BadRoomName, RoomNamedTwice}

abbrev pub texts_of : List (Bor (List ℕ)) → List (List ℕ)
texts_of names = map (λ name. name.now) names

-- the mistake in the names, if there is one: a bad name, or else a name that occurs twice
abbrev pub mistake_in : List (List ℕ) → Option Fault
mistake_in names =
    if list_all is_first_name names
    then option_map (λ place. RoomNamedTwice) (first_repeat bytes_eq names) else Some BadRoomName
