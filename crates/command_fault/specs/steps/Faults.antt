-- The exit status of each fault, and the fault for a text that is no name.
use Rattle.std.specs.Prelude.{ℕ}
use Rattle.base_types.specs.declared.fault.NameFault.{NameFault}
use Rattle.base_types.specs.declared.fault.NameFault.TheVariants as name
use Rattle.command_fault.specs.declared.fault.Fault.{Fault}
use Rattle.command_fault.specs.declared.fault.Fault.TheVariants.{BadRoomName, RoomNamedTwice, Input}
use Rattle.command_fault.specs.declared.fault.Fault.TheVariants.{Output, CannotListen, Accept}
use Rattle.command_fault.specs.declared.fault.Fault.TheVariants.{NoWorker, RoomsTorn, CannotConnect}
use Rattle.command_fault.specs.declared.fault.Fault.TheVariants.{Session, NoMemory}

abbrev pub status_of : Fault → ℕ
status_of BadRoomName = 2
status_of RoomNamedTwice = 2
status_of Input = 3
status_of Output = 3
status_of (CannotListen why) = 3
status_of Accept = 3
status_of NoWorker = 3
status_of RoomsTorn = 3
status_of (CannotConnect why) = 3
status_of Session = 3
status_of NoMemory = 4

abbrev pub of_name : NameFault → Fault
of_name name.NoMemory = NoMemory
of_name _ = BadRoomName
