use Rattle.std.proofs.Common.{length}
use Rattle.wire.specs.Lines.{lines_of}
use Rattle.transcript.proofs.SoFar.{IsReadSoFar}
use Rattle.transcript.proofs.ordered_part.OrderedPart.read.Given as goal

-- the order has the lines before the rest
abbrev pub invariant-loop-rest : goal.invariant-loop-rest
invariant-loop-rest l = IsReadSoFar l.fn.count (lines_of l.fn.transcript) l.order (lines_of l.rest)

abbrev pub decreases-loop-rest : goal.decreases-loop-rest
decreases-loop-rest l = length l.rest
