use Rattle.std.proofs.Common.{◌≡◌, true}
use Rattle.base_types.specs.Names.{is_op_name}
use Rattle.record_file.proofs.Ranges.{all_more, all_of_them}
use Rattle.record_file.proofs.range.names_in_range.Goals as goal

pub loop-name-preserved : goal.loop-name-preserved
loop-name-preserved c =
    all_more (λ name. is_op_name name ≡ true) _ _ _ c.loop-name-test.true c.name-item.is c.loop-name.invariant c.name_in_range.ensures

pub returns : goal.returns
returns c = all_of_them (λ name. is_op_name name ≡ true) _ _ c.loop-name-test.false c.loop-name.invariant
