use Rattle.std.proofs.Common.{take}
use Rattle.std.specs.Prelude.{All}
use Rattle.wire.specs.Form.{IsAttr}
use Rattle.record_file.proofs.range.pairs_in_range.Given as goal

abbrev pub invariant-loop-pair : goal.invariant-loop-pair
invariant-loop-pair l = All IsAttr (take l.pair-index l.pairs)
