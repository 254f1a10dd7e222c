-- What a fault of a part makes of the whole.
use Rattle.base_types.specs.declared.fault.NameFault.{NameFault}
use Rattle.base_types.specs.declared.fault.NameFault.TheVariants as name
use Rattle.base_types.specs.declared.fault.ListFault.{ListFault}
use Rattle.base_types.specs.declared.fault.ListFault.TheVariants as list
use Rattle.base_types.specs.declared.state_vector.VectorFault.{VectorFault}
use Rattle.base_types.specs.declared.state_vector.VectorFault.TheVariants as vector
use Rattle.std.specs.Prelude.{◌≡◌}
use Rattle.serde_json.specs.declared.error.Error.{Error}
use Rattle.serde_json.specs.Errors.{IsMemory}
use Rattle.wire_reader.specs.declared.fault.ReadFault.{ReadFault}
use Rattle.wire_reader.specs.declared.fault.ReadFault.TheVariants.{Bad, NoMemory}

-- of a room's name, a key, a kind or a value's text
abbrev pub of_bad_name : NameFault → ReadFault
of_bad_name name.NoMemory = NoMemory
of_bad_name _ = Bad

-- of a version identifier
abbrev pub of_list : ListFault → ReadFault
of_list list.NotRising = Bad

-- of a state vector
abbrev pub of_vector : VectorFault → ReadFault
of_vector vector.NoMemory = NoMemory
of_vector _ = Bad

-- of a text: where JSON refuses it it is Bad, and want of memory is NoMemory
pub record IsOfText (e : Error) (f : ReadFault) : Type 0 where
  pub memory : IsMemory e → f ≡ NoMemory
  pub text : ¬ IsMemory e → f ≡ Bad
