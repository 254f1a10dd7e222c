-- How commands may end: their exit statuses, and why early.
use Rattle.std.specs.Prelude.{◌≡◌, ◌⊎◌, ℕ, List, Option, Some, None, Result, Ok, Err}
use Rattle.std.specs.Io.KnownBytes.{Appends, Keeps}
use Rattle.byte_streams.specs.Prefixes.{AppendsPrefix}
use Rattle.command_fault.specs.declared.fault.Fault.{Fault}
use Rattle.command_fault.specs.declared.fault.Fault.TheVariants.{Input, Output, NoMemory}
use Rattle.command_fault.specs.steps.Faults.{status_of}
use Rattle.commands.specs.Names.{mistake_in}
use Rattle.commands.specs.Reports.{Report, SomeRight}

-- the text of a right result was appended, and this is its status
abbrev pub Tells : {Input Found : Type 0} → Report Input Found → Option (List ℕ) → Option (List ℕ)
    → ℕ → Input → Type 0
Tells report before after status =
    SomeRight report (λ said. Appends before after said.0 × (status ≡ said.1))

-- a prefix of the text of a right result was appended
abbrev pub TellsPrefix : {Input Found : Type 0} → Report Input Found → Option (List ℕ)
    → Option (List ℕ) → Input → Type 0
TellsPrefix report before after = SomeRight report (λ said. AppendsPrefix before after said.0)

-- an exit status after a result
abbrev pub IsOfResult : ℕ → Type 0
IsOfResult status = (status ≡ 0) ⊎ (status ≡ 1)

-- the exit status after a result's status or a fault
abbrev pub end_status : Result ℕ Fault → ℕ
end_status (Ok status) = status
end_status (Err fault) = status_of fault

-- what was written before a fault: nothing, unless the output failed
abbrev pub EndsEarly : Type 0 → Option (List ℕ) → Option (List ℕ) → Fault → Type 0
EndsEarly Prefix before after Input = Keeps before after
EndsEarly Prefix before after NoMemory = Keeps before after
EndsEarly Prefix before after Output = Prefix
EndsEarly Prefix before after _ = ⊥

-- Why a script in rooms of these names may end early: a mistake in the names; if there is none,
-- failed input or output; or a failed allocation.
abbrev pub MayEnd : List (List ℕ) → Fault → Type 0
MayEnd names Input = mistake_in names ≡ None
MayEnd names Output = mistake_in names ≡ None
MayEnd names NoMemory = Unit {0}
MayEnd names fault = mistake_in names ≡ Some fault
