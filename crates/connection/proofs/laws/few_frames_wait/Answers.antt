use Rattle.connection.proofs.Queues.{few_wait}
use Rattle.connection.proofs.laws.few_frames_wait.Goals as goal

pub returns : goal.returns
returns g c talk before after bytes r few =
    few_wait (g.T.Talk.turn talk) (g.T.Talk.waits talk) (g.T.Talk.blocks talk) before after bytes r few
