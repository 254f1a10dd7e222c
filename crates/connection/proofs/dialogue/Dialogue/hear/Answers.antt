use Rattle.std.proofs.Common.{leb-true, string_bytes, refl}
use Rattle.connection.proofs.Hearing.{failed, heard, held, unheld_for_memory, unsent}
use Rattle.connection.proofs.dialogue.Dialogue.hear.Goals as goal

pub returns-in-Ok-Some-clause-ok : goal.returns-in-Ok-Some-clause-ok
returns-in-Ok-Some-clause-ok g c =
    let talk = c.args.talk.now in
    let turn = rw c.in-Ok-Some.field-0-is at c.in-Ok-Some.ensures.answered in
    heard (g.T.Talk.turn talk) (g.T.Talk.waits talk) (g.T.Talk.fails talk) c.send.result c.args.context.now _ c.args.message.now (string_bytes c.in-Ok-Some.answer.text) c.in-Ok-Some.answer.reported _ _ _ _ _
    c.in_ok-answer_held.ensures.ok c.self.view_is c.answer_held.ensures.context turn c.send.ensures.ok

pub returns-in-Ok-Some-clause-err : goal.returns-in-Ok-Some-clause-err
returns-in-Ok-Some-clause-err g c =
    let talk = c.args.talk.now in
    let turn = rw c.in-Ok-Some.field-0-is at c.in-Ok-Some.ensures.answered in
    unsent (g.T.Talk.turn talk) (g.T.Talk.waits talk) (g.T.Talk.fails talk) c.send.result c.args.context.now _ c.args.message.now (string_bytes c.in-Ok-Some.answer.text) c.in-Ok-Some.answer.reported _ _ _ _ _
    c.in_ok-answer_held.ensures.ok c.self.view_is c.answer_held.ensures.context turn c.send.ensures.err c.send.ensures.why

pub returns-in-Ok-None-clause-ok : goal.returns-in-Ok-None-clause-ok
returns-in-Ok-None-clause-ok g c =
    let talk = c.args.talk.now in
    let waits = (rw c.in-Ok-None.field-0-is at c.in-Ok-None.ensures.held) refl in
    held (g.T.Talk.turn talk) (g.T.Talk.waits talk) (g.T.Talk.fails talk) c.hold.result c.args.context.now c.args.message.now _ _ _ _ _
    c.in_ok-answer_held.ensures.ok c.self.view_is waits.1 waits.2 (leb-true _ _ waits.0) c.hold.ensures.ok

pub returns-in-Ok-None-clause-err : goal.returns-in-Ok-None-clause-err
returns-in-Ok-None-clause-err g c =
    let talk = c.args.talk.now in
    let waits = (rw c.in-Ok-None.field-0-is at c.in-Ok-None.ensures.held) refl in
    unheld_for_memory (g.T.Talk.turn talk) (g.T.Talk.waits talk) (g.T.Talk.fails talk) c.hold.result c.args.context.now c.args.message.now _ _ _ _ _
    c.in_ok-answer_held.ensures.ok c.self.view_is waits.1 c.hold.ensures.err c.hold.ensures.why

pub returns-in-Err-clause-err : goal.returns-in-Err-clause-err
returns-in-Err-clause-err g c =
    let talk = c.args.talk.now in
    failed (g.T.Talk.turn talk) (g.T.Talk.waits talk) (g.T.Talk.fails talk) c.in-Err.end c.args.context.now c.args.message.now _ _ _ _
    c.in_ok-answer_held.ensures.ok c.self.view_is c.in-Err.ensures.failed
