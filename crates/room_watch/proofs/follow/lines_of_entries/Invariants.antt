use Rattle.std.proofs.Common.{◌≡◌, map, take, string_bytes}
use Rattle.std.specs.Arc.{arc_value}
use Rattle.late_join.specs.Replica.{with_entries}
use Rattle.room_watch.specs.steps.Lines.{added_lines}
use Rattle.room_watch.proofs.follow.lines_of_entries.Given as goal

abbrev pub invariant-loop-entry : goal.invariant-loop-entry
invariant-loop-entry l = record {
  taken : l.replica ≡ with_entries l.initial.replica (map arc_value (take l.entry-index l.entries));
  lines : string_bytes l.lines ≡ added_lines l.initial.replica.taken (map arc_value (take l.entry-index l.entries));
}
