-- How a call fails that takes values in a range.
use Rattle.std.specs.Prelude.{◌≡◌, ◌≢◌, Option, Some, None, Result, IsErrOf, IfErr, List}
use Rattle.std.specs.Prelude.{if◌then◌else◌}
use Rattle.base_types.specs.declared.fault.ListFault.{ListFault}
use Rattle.base_types.specs.declared.fault.ListFault.TheVariants.{NotRising}
use Rattle.base_types.specs.Names.{Name}
use Rattle.base_types.specs.VersionIds.{names_rise}
use Rattle.base_types.specs.declared.fault.NameFault.{NameFault}
use Rattle.base_types.specs.declared.fault.NameFault.TheVariants.{TooLong}
use Rattle.base_types.specs.Texts.{Bytes, is_value_text}

-- The call fails with the fault if there is one, and otherwise only with NoMemory.
abbrev pub FailsBy : {X F : Type 0} → F → Option F → Result X F → Type 0
FailsBy memory (Some fault) result = IsErrOf result fault
FailsBy memory None result = IfErr result (λ fault. fault ≡ memory)

-- if the call fails with another fault than NoMemory
abbrev pub OnFault : {X F : Type 0} → F → Result X F → Type 0 → Type 0
OnFault memory result holds = IfErr result (λ fault. fault ≢ memory → holds)

-- the fault of a list of names
abbrev pub names_fault : List Name → Option ListFault
names_fault names = if names_rise names then None else Some NotRising

-- the fault of a value's text
abbrev pub value_fault : Bytes → Option NameFault
value_fault bytes = if is_value_text bytes then None else Some TooLong
