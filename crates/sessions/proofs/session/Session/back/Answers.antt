use Rattle.std.proofs.Common.{◌≡◌, false, true, is_some, Option, ap, refl, sym, ◌∙◌, subst}
use Rattle.std.specs.Prelude.{IfSome}
use Rattle.base_types.specs.Texts.{Bytes}
use Rattle.scope.specs.Scopes.{allows}
use Rattle.keeper.specs.Chains.{IsLater}
use Rattle.openings.specs.Openings.{OpeningView}
use Rattle.room_lock.specs.InOrder.{IsOpeningFor}
use Rattle.room_lock.specs.Lookups.{IfOpen}
use Rattle.sessions.specs.Sessions.{HostView, SessionTurn, SessionView, host_of}
use Rattle.sessions.specs.Entering.{MayEnter}
use Rattle.sessions.specs.steps.Replies.{turn_of}
use Rattle.sessions.proofs.Entering.{back_answered, back_sent_on, if_in_use_so, if_refused_so}
use Rattle.sessions.proofs.session.Session.back.Goals as goal

pub returns-clause-ok : goal.returns-clause-ok
returns-clause-ok g c =
    let opening = c.in-Open.opening in
    let at = subst (IfOpen (λ (o : OpeningView). MayEnter c.args.self.now.scope c.args.host.now.rooms.now c.args.name × IsOpeningFor c.args.host.now.rooms.now c.args.name o)) c.in-Open.is c.in_ok-found.ensures.open in
    let went = c.back-entrance.result in
    let outside : is_some c.self.inside.inside ≡ false = cc in
    let none : is_some c.args.self.now.pass ≡ false = sym (ap (λ (session : SessionView). is_some session.pass) c.self.view_is) ∙ outside in
    let host : HostView = host_of g.P.RoomHistories.limits c.args.host.now.rooms.now g.K.Keeper.permits g.K.Keeper.denies in
    let turn : SessionTurn = turn_of c.args.self.now c.enter.new.self c.enter.result in
    back_answered host c.args.name turn none c.args.site opening went at.0 at.1 (record {
      entered = c.back-entrance.ensures.entered;
      refused = if_refused_so _ _ went (λ prefix reply refused. (false, refused)) c.back-entrance.ensures.entrance_refused;
      in_use = if_in_use_so _ _ went (λ it reply refused. (true, refused.1)) c.back-entrance.ensures.in_use;
      no_room = c.back-entrance.ensures.no_room;
      pass_opening = c.back-entrance.ensures.pass_opening;
      refusal_opening = c.back-entrance.ensures.refusal_opening;
      in_use_opening = c.back-entrance.ensures.in_use_opening;
    }) c.enter.ensures.after

pub returns-in-Some-clause-ok : goal.returns-in-Some-clause-ok
returns-in-Some-clause-ok g c =
    let found = subst (λ (o : Option Bytes). IfSome o (λ later. IsLater c.args.name later × (allows c.args.self.now.scope c.args.name ≡ true))) c.in-Some.is c.in_ok-later-in-NoRoom.ensures.later in
    let outside : is_some c.self.inside.inside ≡ false = cc in
    let none : is_some c.args.self.now.pass ≡ false = sym (ap (λ (session : SessionView). is_some session.pass) c.self.view_is) ∙ outside in
    let host : HostView = host_of g.P.RoomHistories.limits c.args.host.now.rooms.now g.K.Keeper.permits g.K.Keeper.denies in
    let turn : SessionTurn = turn_of c.args.self.now c.args.self.now c.sent_on.result in
    back_sent_on host c.args.name turn none c.args.site c.in-Some.later found.0 found.1 c.sent_on.ensures.reply c.sent_on.ensures.reported refl
