use Rattle.std.proofs.Common.{arith}
use Rattle.connection.proofs.Frames.{does, fails_at}
use Rattle.connection.proofs.dialogue.Dialogue.serve_frame.Goals as goal

pub advance-requires : goal.advance-requires
advance-requires g c =
    let keeps = rw c.in-Ok-Complete.field-0-is at c.in-Ok-Complete.ensures.keeps_rest in
    omega (arith, keeps.0, c.read.ensures.len)

pub returns-clause-served : goal.returns-clause-served
returns-clause-served g c same =
    let talk = c.args.talk.now in
    let returns = rw c.in-Ok-Complete.field-0-is at c.in-Ok-Complete.ensures.returns in
    let keeps = rw c.in-Ok-Complete.field-0-is at c.in-Ok-Complete.ensures.keeps_rest in
    let leaves = rw c.new-reply.ensures.items at c.in-Ok-Complete.ensures.leaves in
    let takes = rw c.bytes.ensures at c.in_ok-take_given.ensures.ok in
    let done = does (g.T.Talk.turn talk) (g.T.Talk.waits talk) _ _ c.read.new.context _ _ c.in-Ok-Complete.step _ _ c.take_given.new.self returns leaves keeps.1 takes in
    (done.0, done.1, rw c.take_given.ensures.context done.2, rw c.advance.ensures done.3, rw c.in_ok-push_reply.ensures.ok done.4)

pub returns-in_err-take_given-clause-err : goal.returns-in_err-take_given-clause-err
returns-in_err-take_given-clause-err g c =
    let talk = c.args.talk.now in
    let returns = rw c.in-Ok-Complete.field-0-is at c.in-Ok-Complete.ensures.returns in
    let leaves = rw c.new-reply.ensures.items at c.in-Ok-Complete.ensures.leaves in
    fails_at (g.T.Talk.turn talk) (g.T.Talk.waits talk) c.from_residual.result (g.T.Talk.fails talk) _ c.read.new.context c.take_given.new.context _ _ c.in-Ok-Complete.step _ _ _ c.take_given.new.self
    returns leaves c.take_given.ensures.context (rw c.bytes.ensures at c.in_err-take_given.ensures.err) c.from_residual.ensures.1
