use Rattle.std.proofs.Common.{◌≡◌}
use Rattle.wire.proofs.lists.IdList.unwritten.Given as goal

abbrev pub invariant-loop-id : goal.invariant-loop-id
invariant-loop-id l = l.shared.items ≡ l.yielded
