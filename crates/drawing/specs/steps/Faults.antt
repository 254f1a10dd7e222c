-- Why an operation can't be added, as a refusal.
use Rattle.std.specs.Prelude.{◌≡◌, ◌≢◌, Option, Some, None}
use Rattle.rules.specs.declared.refusal.Refusal.{Refusal}
use Rattle.shape.specs.declared.fault.ChangeFault.{ChangeFault}
use Rattle.shape.specs.steps.Faults.{refusal_of_change_fault}
use Rattle.drawing.specs.declared.fault.AddFault.{AddFault}
use Rattle.drawing.specs.declared.fault.AddFault.TheVariants.{NoMemory, Refused}

-- the refusal that a fault is; want of memory is none
abbrev pub refusal_of_add_fault : AddFault → Option Refusal
refusal_of_add_fault (Refused refusal) = Some refusal
refusal_of_add_fault NoMemory = None

-- a fault is this refusal, or want of memory
abbrev pub IsAddRefusal : Option Refusal → AddFault → Type 0
IsAddRefusal refusal fault = fault ≢ NoMemory → refusal ≡ refusal_of_add_fault fault

-- the fault of a refusal; want of memory is none
abbrev pub add_fault_of : Option Refusal → AddFault
add_fault_of None = NoMemory
add_fault_of (Some refusal) = Refused refusal

-- what a fault of an object is to its drawing
abbrev pub of_change : ChangeFault → AddFault
of_change fault = add_fault_of (refusal_of_change_fault fault)
