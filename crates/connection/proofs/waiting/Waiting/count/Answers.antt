use Rattle.std.proofs.Common.{arith, drop}
use Rattle.connection.proofs.InList.{count_in}
use Rattle.connection.proofs.waiting.Waiting.count.Goals as goal

pub returns : goal.returns
returns g c = rw (← c.self.view_is) (omega (arith, count_in c.self.inside.items.items (drop c.self.inside.left c.self.inside.bytes.items), c.len.ensures))
