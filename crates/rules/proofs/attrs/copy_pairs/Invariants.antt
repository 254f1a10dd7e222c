use Rattle.std.proofs.Common.{◌≡◌, take}
use Rattle.rules.proofs.attrs.copy_pairs.Given as goal

abbrev pub invariant-loop-pair : goal.invariant-loop-pair
invariant-loop-pair l = l.copies.items ≡ take l.pair-index l.pairs
