-- The schedule of failures of a journal in memory.
use Rattle.std.specs.Prelude.{◌-◌, ◌==◌, ◌||◌, nat_lt, Option, Some, None, if◌then◌else◌}
use Rattle.journal.specs.declared.failures.Failures.{Failures}
use Rattle.journal.specs.declared.fault.JournalFault.{JournalFault}
use Rattle.journal.specs.declared.fault.JournalFault.TheVariants.{Full, Failed}

-- the fault of the next call, if it fails
abbrev pub fault_now : Failures → Option JournalFault
fault_now f =
    if nat_lt 0 f.after || f.count == 0 then None
    else (if f.is_full then Some Full else Some Failed)

-- the schedule after one more call
abbrev pub after_call : Failures → Failures
after_call f =
    if nat_lt 0 f.after then record f { after = f.after - 1 } else record f { count = f.count - 1 }
