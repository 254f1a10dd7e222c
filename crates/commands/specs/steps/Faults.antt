-- The program's fault for each fault of making rooms and of a script.
use Rattle.command_fault.specs.declared.fault.Fault.{Fault}
use Rattle.command_fault.specs.declared.fault.Fault.TheVariants.{RoomNamedTwice, Input, Output}
use Rattle.command_fault.specs.declared.fault.Fault.TheVariants.{NoMemory}
use Rattle.base_types.specs.declared.fault.RoomsFault.{RoomsFault}
use Rattle.base_types.specs.declared.fault.RoomsFault.TheVariants as rooms
use Rattle.world.specs.declared.fault.ScriptFault.{ScriptFault}
use Rattle.world.specs.declared.fault.ScriptFault.TheVariants as script

abbrev pub of_rooms : RoomsFault → Fault
of_rooms (rooms.SameName place) = RoomNamedTwice
of_rooms rooms.NoMemory = NoMemory

abbrev pub of_script : ScriptFault → Fault
of_script script.Read = Input
of_script script.Write = Output
of_script script.NoMemory = NoMemory
