use Rattle.std.proofs.Common.{arith}
use Rattle.connection.proofs.InList.{len_behind}
use Rattle.connection.proofs.waiting.Waiting.len.Goals as goal

pub returns : goal.returns
returns g c =
    let known = len_behind c.self.inside.items.items c.self.inside.bytes.items c.self.inside.left c.self.invariant in
    rw (← c.self.view_is) (omega (arith, known, c.len.ensures))
