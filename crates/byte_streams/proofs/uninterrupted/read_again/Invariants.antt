use Rattle.std.specs.Io.KnownBytes.{Keeps}
use Rattle.byte_streams.proofs.uninterrupted.read_again.Given as goal

abbrev pub invariant-loop : goal.invariant-loop
invariant-loop g l = record { kept : Keeps (g.S.Read.remaining l.fn.stream) (g.S.Read.remaining l.stream) }
