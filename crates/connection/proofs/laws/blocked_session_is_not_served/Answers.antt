use Rattle.connection.proofs.Blocks.{none_received}
use Rattle.connection.proofs.laws.blocked_session_is_not_served.Goals as goal

pub returns : goal.returns
returns g c talk before after bytes r blocked =
    none_received (g.T.Talk.turn talk) (g.T.Talk.waits talk) (g.T.Talk.blocks talk) before after bytes r blocked
