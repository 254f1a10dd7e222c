-- The program's fault for each fault of serving.
use Rattle.command_fault.specs.declared.fault.Fault.{Fault}
use Rattle.command_fault.specs.declared.fault.Fault.TheVariants.{NoWorker, RoomsTorn, Output, NoMemory}
use Rattle.sessions.specs.declared.streams.ServeFault.{ServeFault}
use Rattle.sessions.specs.declared.streams.ServeFault.TheVariants as serving

abbrev pub of_serving : ServeFault → Fault
of_serving serving.NoWorker = NoWorker
of_serving serving.Torn = RoomsTorn
of_serving serving.Write = Output
of_serving serving.NoMemory = NoMemory
