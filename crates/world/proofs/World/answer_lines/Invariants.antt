use Rattle.std.proofs.Common.{◌++◌, length}
use Rattle.world.specs.steps.Answered.{IsHeld, Wrote}
use Rattle.world.proofs.World.answer_lines.Given as goal

abbrev pub invariant-loop-first : goal.invariant-loop-first
invariant-loop-first g l = record {
  held : IsHeld l.line.items;
  wrote : Wrote (g.W.Write.contents l.fn.output) (g.W.Write.contents l.output) l.fn.self l.self (l.fn.line.items ++ l.bytes) (l.line.items ++ l.rest) l.answers.items;
}

abbrev pub decreases-loop-first : goal.decreases-loop-first
decreases-loop-first g l = length l.rest
