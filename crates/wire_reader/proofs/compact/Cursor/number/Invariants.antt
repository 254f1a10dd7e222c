use Rattle.std.proofs.Common.{◌≡◌, ◌++◌, length, decimal}
use Rattle.wire_reader.proofs.compact.Cursor.number.Given as goal

-- the digits so far are those of the number
abbrev pub invariant-loop-number : goal.invariant-loop-number
invariant-loop-number l = l.fn.self ≡ decimal l.number ++ l.self

abbrev pub decreases-loop-number : goal.decreases-loop-number
decreases-loop-number l = length l.self
