-- The exit status of `grace serve` when it ends early.
use Rattle.std.specs.Prelude.{ℕ}
use Rattle.command_fault.specs.steps.Faults.{status_of}
use Rattle.room_folder.specs.declared.fault.FolderFault.TheVariants as folder
use Rattle.server.specs.declared.early_end.EarlyEnd.{EarlyEnd}
use Rattle.server.specs.declared.early_end.EarlyEnd.TheVariants.{Fault, Folder, NotKept}

abbrev pub status_of_end : EarlyEnd → ℕ
status_of_end (Fault fault) = status_of fault
status_of_end (Folder folder.NoMemory) = 4
status_of_end (Folder fault) = 3
status_of_end NotKept = 3
