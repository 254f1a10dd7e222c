use Rattle.std.proofs.Common.{◌≡◌, true, take}
use Rattle.std.specs.Prelude.{All}
use Rattle.base_types.specs.Names.{is_op_name}
use Rattle.record_file.proofs.range.names_in_range.Given as goal

abbrev pub invariant-loop-name : goal.invariant-loop-name
invariant-loop-name l = All (λ name. is_op_name name ≡ true) (take l.name-index l.names)
