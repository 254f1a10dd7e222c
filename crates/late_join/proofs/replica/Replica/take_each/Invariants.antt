use Rattle.std.proofs.Common.{◌≡◌, map, take}
use Rattle.std.specs.Arc.{arc_value}
use Rattle.late_join.specs.Replica.{with_entries}
use Rattle.late_join.proofs.replica.Replica.take_each.Given as goal

abbrev pub invariant-loop-entry : goal.invariant-loop-entry
invariant-loop-entry l = l.self ≡ with_entries l.initial.self (take l.entry-index (map arc_value l.entries))
