use Rattle.std.proofs.Common.{◌≡◌, length, take}
use Rattle.wire.specs.steps.Growing.{next_names}
use Rattle.wire.proofs.write.names.len_of_all.Given as goal

abbrev pub invariant-loop-name : goal.invariant-loop-name
invariant-loop-name l = l.len ≡ length (next_names (take l.name-index l.names))
