use Rattle.std.proofs.Common.{rules, inr, Option, string_bytes, refl, subst, sym}
use Rattle.base_types.proofs.Results.{err_of}
use Rattle.wire.specs.Texts.{reply_text}
use Rattle.room_lock.specs.Passes.{PrefixView}
use Rattle.sessions.specs.Sessions.{host_of}
use Rattle.sessions.specs.steps.Replies.{turn_of}
use Rattle.sessions.specs.Turns.{IsTextOfTurn, IsTurn}
use Rattle.sessions.proofs.session.Session.message.Goals as goal

pub returns-in_ok-into_answer-in-Some-clause-ok : goal.returns-in_ok-into_answer-in-Some-clause-ok
returns-in_ok-into_answer-in-Some-clause-ok g c =
    let turn : IsTurn (host_of g.P.RoomHistories.limits c.args.host.now.rooms.now g.K.Keeper.permits g.K.Keeper.denies) c.args.bytes.now (turn_of c.args.self.now c.reply_to.new.self c.in-Some.reply) = search rules in
    let T : Option PrefixView → Type 0 = λ reported. IsTextOfTurn (host_of g.P.RoomHistories.limits c.args.host.now.rooms.now g.K.Keeper.permits g.K.Keeper.denies) c.args.self.now c.reply_to.new.self c.args.bytes.now reported (string_bytes c.in_ok-into_answer-in-Some.field-0.text) in
    subst T (sym c.in_ok-into_answer-in-Some.ensures.reported) (c.in-Some.reply.reply, c.in_ok-into_answer-in-Some.ensures.text, turn)

pub returns-in_err-into_answer-in-Some-clause-err : goal.returns-in_err-into_answer-in-Some-clause-err
returns-in_err-into_answer-in-Some-clause-err g c =
    let turn : IsTurn (host_of g.P.RoomHistories.limits c.args.host.now.rooms.now g.K.Keeper.permits g.K.Keeper.denies) c.args.bytes.now (turn_of c.args.self.now c.reply_to.new.self c.in-Some.reply) = search rules in
    err_of _ (inr (c.in-Some.reply.reported, reply_text c.in-Some.reply.reply, (c.in-Some.reply.reply, refl, turn)))
