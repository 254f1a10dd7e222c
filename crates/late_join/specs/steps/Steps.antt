-- Steps of taking an entry.
use Rattle.std.specs.Prelude.{List, Option, Some, option_map, if◌then◌else◌, []}
use Rattle.rules.specs.declared.history.Op.{Op}
use Rattle.rules.specs.declared.history.Entry.{Entry}
use Rattle.rules.specs.declared.history.Entry.TheVariants.{Operation}
use Rattle.rules.specs.declared.limits.LimitValues.{LimitValues}
use Rattle.rules.specs.Admission.{first_that_applies}
use Rattle.drawing.specs.declared.fault.AddFault.{AddFault}
use Rattle.drawing.specs.declared.fault.AddFault.TheVariants as add_fault
use Rattle.late_join.specs.declared.fault.TakeFault.{TakeFault}
use Rattle.late_join.specs.declared.fault.TakeFault.TheVariants.{Repeat, Early, Refused, NoMemory}
use Rattle.late_join.specs.Taking.{is_repeat, is_early, arriving_conditions}
use Rattle.late_join.specs.Replica.{ReplicaState}

-- a replica that has taken nothing
abbrev pub empty_replica : LimitValues → ReplicaState
empty_replica limits = record { limits = limits; taken = [] }

-- the replica's fault for a fault of the drawing
abbrev pub of_adding : AddFault → TakeFault
of_adding (add_fault.Refused refusal) = Refused refusal
of_adding add_fault.NoMemory = NoMemory

-- why an operation is not taken, whatever its body is; `None` if it may be
abbrev pub arrival_fault : LimitValues → List Entry → Op → Option TakeFault
arrival_fault b t op =
    if is_repeat t (Operation op) then Some Repeat
    else (if is_early t (Operation op) then Some Early
    else option_map Refused (first_that_applies (arriving_conditions b t op)))
