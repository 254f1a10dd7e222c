use Rattle.std.specs.Io.KnownBytes.{Keeps}
use Rattle.byte_streams.proofs.uninterrupted.write_again.Given as goal

abbrev pub invariant-loop : goal.invariant-loop
invariant-loop g l = record { kept : Keeps (g.S.Write.contents l.fn.stream) (g.S.Write.contents l.stream) }
