use Rattle.std.proofs.Common.{take, map}
use Rattle.std.specs.Arc.{arc_value}
use Rattle.std.specs.Io.KnownBytes.{Appends}
use Rattle.std.specs.List.{flat_map}
use Rattle.sessions.specs.Records.{record_lines}
use Rattle.sessions.proofs.record.write_records.Given as goal

abbrev pub invariant-loop-room : goal.invariant-loop-room
invariant-loop-room g l =
    Appends (g.W.Write.contents l.initial.output) (g.W.Write.contents l.output)
    (flat_map record_lines (map (λ one. record { name = one.room; entries = map arc_value one.entries.items }) (take l.room-index l.rooms)))
