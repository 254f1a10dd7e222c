use Rattle.std.proofs.Common.{length}
use Rattle.connection.specs.Receiving.{Run, Served}
use Rattle.connection.specs.steps.States.{state_of}
use Rattle.connection.proofs.dialogue.Dialogue.serve.Given as goal

abbrev pub invariant-loop-self : goal.invariant-loop-self
invariant-loop-self g l =
    (ps : Run) × Served (g.T.Talk.turn l.talk) (g.T.Talk.waits l.talk) (g.T.Talk.blocks l.talk) ps
    (state_of l.fn.context l.fn.input l.fn.self) (state_of l.context l.input l.self)

abbrev pub decreases-loop-self : goal.decreases-loop-self
decreases-loop-self g l = length l.input
