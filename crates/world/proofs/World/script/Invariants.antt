use Rattle.std.proofs.Common.{◌≡◌, [], length}
use Rattle.byte_streams.specs.declared.whole.TheConstants.{PIECE_LEN}
use Rattle.world.specs.steps.Answered.{IsHeld}
use Rattle.world.proofs.Transcript.{ReadSoFar}
use Rattle.world.proofs.World.script.Given as goal

abbrev pub invariant-loop : goal.invariant-loop
invariant-loop g l = record {
  room : length l.chunk ≡ PIECE_LEN;
  held : IsHeld l.line.items;
  none : l.answers.items ≡ [];
  told : ReadSoFar (g.R.Read.remaining l.fn.input) (g.R.Read.remaining l.input) (g.W.Write.contents l.fn.output) (g.W.Write.contents l.output) l.fn.self l.self l.line.items;
}
