use Rattle.wire.specs.Form.{IsAttr}
use Rattle.record_file.proofs.Ranges.{all_more, all_of_them}
use Rattle.record_file.proofs.range.pairs_in_range.Goals as goal

pub loop-pair-preserved : goal.loop-pair-preserved
loop-pair-preserved c =
    all_more IsAttr _ _ _ c.loop-pair-test.true c.pair-item.is c.loop-pair.invariant (c.text-key.ensures.range, c.value_in_range.ensures)

pub returns : goal.returns
returns c = all_of_them IsAttr _ _ c.loop-pair-test.false c.loop-pair.invariant
