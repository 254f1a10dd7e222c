use Rattle.std.proofs.Common.{◌≡◌, ◌≤◌, not, bytes_eq, take}
use Rattle.std.specs.List.{count_by, list_any}
use Rattle.rules.specs.Versions.{keys_of}
use Rattle.shape.proofs.keys.count_new_keys.Given as goal

abbrev pub invariant-loop-at : goal.invariant-loop-at
invariant-loop-at l = (l.count ≡ count_by (λ pair. not (list_any (bytes_eq pair.0) (keys_of l.changes.ops))) (take l.at l.pairs)) × (l.count ≤ l.at)
