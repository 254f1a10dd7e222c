-- The fault of a journal for an error of the system.
use Rattle.std.specs.declared.io.ErrorKind.{ErrorKind}
use Rattle.std.specs.declared.io.ErrorKind.TheVariants.{StorageFull}
use Rattle.journal.specs.declared.fault.JournalFault.{JournalFault}
use Rattle.journal.specs.declared.fault.JournalFault.TheVariants.{Full, Failed}

-- only ENOSPC, which has the kind `StorageFull`, means a full disk
abbrev pub fault_of_kind : ErrorKind → JournalFault
fault_of_kind StorageFull = Full
fault_of_kind _ = Failed
