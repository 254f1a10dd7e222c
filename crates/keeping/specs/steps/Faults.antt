-- The faults of keeping for those of a file.
use Rattle.journal.specs.declared.fault.JournalFault.{JournalFault}
use Rattle.journal.specs.declared.fault.JournalFault.TheVariants.{NoMemory, Full, Failed}
use Rattle.keeper.specs.declared.keeper.KeepFault.{KeepFault}
use Rattle.keeper.specs.declared.keeper.KeepFault.TheVariants as keep_fault

-- the fault of keeping for a fault of the file
abbrev pub keep_fault_of : JournalFault → KeepFault
keep_fault_of NoMemory = keep_fault.NoMemory
keep_fault_of Full = keep_fault.NotKept
keep_fault_of Failed = keep_fault.NotKept
