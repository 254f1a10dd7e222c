use Rattle.loops.specs.steps.Delivering.{Delivers}
use Rattle.loops.proofs.stage.release_all.Given as goal

abbrev pub invariant-loop : goal.invariant-loop
invariant-loop g l = Delivers g.V.Talk.shows l.fn.connection.standing l.connection.standing l.fn.output l.output
