use Rattle.std.proofs.Common.{◌≡◌, false, true, not, is_some, ap, sym, ◌∙◌, subst}
use Rattle.std.specs.Prelude.{Ok}
use Rattle.openings.specs.Openings.{OpeningView}
use Rattle.room_lock.specs.InOrder.{IsOpeningFor}
use Rattle.room_lock.specs.Lookups.{IfOpen}
use Rattle.sessions.specs.Sessions.{HostView, SessionTurn, SessionView, host_of}
use Rattle.sessions.specs.Entering.{MayEnter}
use Rattle.sessions.specs.steps.Replies.{turn_of}
use Rattle.sessions.proofs.Entering.{entered_permitted, given_permit, if_in_use_so, join_answered}
use Rattle.sessions.proofs.session.Session.join.Goals as goal

pub returns-clause-ok : goal.returns-clause-ok
returns-clause-ok g c =
    let opening = c.in-Open.opening in
    let at = subst (IfOpen (λ (o : OpeningView). MayEnter c.args.self.now.scope c.args.host.now.rooms.now c.args.name × IsOpeningFor c.args.host.now.rooms.now c.args.name o)) c.in-Open.is c.in_ok-found.ensures.open in
    let outside : is_some c.self.inside.inside ≡ false = cc in
    let none : is_some c.args.self.now.pass ≡ false = sym (ap (λ (session : SessionView). is_some session.pass) c.self.view_is) ∙ outside in
    let given : is_some c.permit.result ≡ true = c.is_none.ensures ∙ ap not c.if-is_none.false in
    let permitted = given_permit g.K.Keeper.permits opening.number c.permit.result given c.permit.ensures.some in
    let host : HostView = host_of g.P.RoomHistories.limits c.args.host.now.rooms.now g.K.Keeper.permits g.K.Keeper.denies in
    let turn : SessionTurn = turn_of c.args.self.now c.enter.new.self c.enter.result in
    join_answered host c.args.name turn none opening c.in_ok-entrance.entrance at.0 at.1 (record {
      entered = entered_permitted host opening c.in_ok-entrance.entrance permitted c.in_ok-entrance.ensures.entered c.in_ok-entrance.ensures.pass_opening;
      refused = c.in_ok-entrance.ensures.entrance_refused;
      in_use = if_in_use_so _ _ c.in_ok-entrance.entrance (λ it reply never. absurd never) c.in_ok-entrance.ensures.never_in_use;
      no_room = λ is. c.in_ok-entrance.ensures.no_room (ap Ok is);
      pass_opening = c.in_ok-entrance.ensures.pass_opening;
      refusal_opening = c.in_ok-entrance.ensures.refusal_opening;
      in_use_opening = if_in_use_so _ _ c.in_ok-entrance.entrance (λ it reply never. absurd never) c.in_ok-entrance.ensures.never_in_use;
    }) c.enter.ensures.after
