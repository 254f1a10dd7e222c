use Rattle.std.proofs.Common.{◌≡◌, ◌-◌, ap, length, length-append, arith}
use Rattle.connection.proofs.Frames.{sent}
use Rattle.connection.proofs.InList.{all_with, frames_with}
use Rattle.connection.proofs.waiting.Waiting.push_text.Goals as goal

pub invariant_of-self-2 : goal.invariant_of-self-2
invariant_of-self-2 g c =
    let wrote = sent _ _ _ _ _ c.in_default.ensures.ok in
    let len : c.len.result - c.len-before.result ≡ length wrote.1 =
    omega (arith, c.len.ensures, c.len-before.ensures, ap length wrote.3, length-append c.self.inside.bytes.items wrote.1) in
    all_with c.self.inside.items.items c.self.inside.bytes.items c.self.inside.left c.self.invariant _ _ wrote.1 _ _ wrote.3 len
    (rw c.reserve.ensures.items at c.push_reserved.ensures)

pub returns-clause-ok : goal.returns-clause-ok
returns-clause-ok g c =
    let wrote = sent _ _ _ _ _ c.in_default.ensures.ok in
    let len : c.len.result - c.len-before.result ≡ length wrote.1 =
    omega (arith, c.len.ensures, c.len-before.ensures, ap length wrote.3, length-append c.self.inside.bytes.items wrote.1) in (
      wrote.1,
      wrote.2,
      rw (← c.self.view_is)
          (frames_with c.self.inside.items.items c.self.inside.bytes.items c.self.inside.left c.self.invariant _ _ wrote.1 _ _ wrote.3 len
          (rw c.reserve.ensures.items at c.push_reserved.ensures)),
    )
