use Rattle.renewal.proofs.Replayed.{HasReplayed}
use Rattle.renewal.proofs.certificate.accept_all.Given as goal

-- the room of the entries so far
abbrev pub invariant-loop-entry : goal.invariant-loop-entry
invariant-loop-entry l = HasReplayed l.entries l.entry-index l.room.room
