use Rattle.connection.proofs.Orders.{received_in_order}
use Rattle.connection.proofs.laws.messages_are_answered_in_order.Goals as goal

pub returns : goal.returns
returns g c talk before after bytes r no_close =
    received_in_order (g.T.Talk.turn talk) (g.T.Talk.waits talk) (g.T.Talk.blocks talk) before after bytes r no_close
