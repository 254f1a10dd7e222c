use Rattle.std.proofs.Common.{rules, ◌≡◌, ◌++◌, [], refl}
use Rattle.connection.proofs.InList.{all_with, frames_with, queued_one}
use Rattle.connection.proofs.waiting.Waiting.push_reply.Goals as goal

pub invariant_of-self-2 : goal.invariant_of-self-2
invariant_of-self-2 g c =
    let more : c.extend_from_slice.new.self.items ≡ c.self.inside.bytes.items ++ c.args.frame.now = search rules in
    all_with c.self.inside.items.items c.self.inside.bytes.items c.self.inside.left c.self.invariant _ _ _ _ _ more refl
    (rw c.reserve.ensures.items at c.push_reserved.ensures)

pub returns-clause-ok : goal.returns-clause-ok
returns-clause-ok g c =
    let more : c.extend_from_slice.new.self.items ≡ c.self.inside.bytes.items ++ c.args.frame.now = search rules in
    let some : c.args.frame.now ≡ [] → ⊥ = search rules in
    rw (← c.self.view_is, queued_one {D = g.row.D.Denot} c.args.frame.now some)
    (frames_with c.self.inside.items.items c.self.inside.bytes.items c.self.inside.left c.self.invariant _ _ _ _ _ more refl
    (rw c.reserve.ensures.items at c.push_reserved.ensures))
