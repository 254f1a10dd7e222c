-- The program's fault for each fault of watching.
use Rattle.command_fault.specs.declared.fault.Fault.{Fault}
use Rattle.command_fault.specs.declared.fault.Fault.TheVariants.{Session, Output, NoMemory}
use Rattle.room_watch.specs.declared.fault.WatchFault.{WatchFault}
use Rattle.room_watch.specs.declared.fault.WatchFault.TheVariants as watching

abbrev pub of_watching : WatchFault → Fault
of_watching watching.Session = Session
of_watching watching.Write = Output
of_watching watching.NoMemory = NoMemory
