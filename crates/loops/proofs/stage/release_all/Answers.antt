use Rattle.std.proofs.Common.{◌∙◌, ap, Ok}
use Rattle.loops.proofs.Deliveries.{none_delivered, one_more}
use Rattle.loops.proofs.stage.release_all.Goals as goal

pub loop-init : goal.loop-init
loop-init g c = none_delivered g.V.Talk.shows _ _

pub loop-preserved : goal.loop-preserved
loop-preserved g c = one_more g.V.Talk.shows _ _ _ _ _ _ c.loop.invariant (c.release.ensures.moved (c.in-Ok-true.is ∙ ap Ok c.in-Ok-true.field-0-test))
