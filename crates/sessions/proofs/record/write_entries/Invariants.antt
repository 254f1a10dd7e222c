use Rattle.std.proofs.Common.{take, map}
use Rattle.std.specs.Arc.{arc_value}
use Rattle.std.specs.Io.KnownBytes.{Appends}
use Rattle.record_file.specs.RecordText.{record_text}
use Rattle.sessions.proofs.record.write_entries.Given as goal

abbrev pub invariant-loop-entry : goal.invariant-loop-entry
invariant-loop-entry g l = Appends (g.W.Write.contents l.initial.output) (g.W.Write.contents l.output) (record_text (map arc_value (take l.entry-index l.entries)))
