use Rattle.std.proofs.Common.{ap, sym, subst}
use Rattle.std.specs.Prelude.{true, false}
use Rattle.room_lock.specs.Passes.{PrefixView}
use Rattle.room_lock.specs.steps.Views.{InUseView}
use Rattle.room_lock.specs.Calls.{IsBackRefusalOver}
use Rattle.room_lock.proofs.Replies.{if_in_use_weaker, if_refused_weaker}
use Rattle.room_lock.proofs.rooms.Rooms.back.Goals as goal

pub returns-clause-entrance_refused : goal.returns-clause-entrance_refused
returns-clause-entrance_refused g c = if_refused_weaker c.back.result _ _
    (λ prefix reply both. subst (λ (p : PrefixView). IsBackRefusalOver g.P.RoomHistories.limits p.entries c.args.site false reply) (sym both.1) both.0) c.back.ensures.entrance_refused

pub returns-clause-in_use : goal.returns-clause-in_use
returns-clause-in_use g c = if_in_use_weaker c.back.result _ _
    (λ it reply all. (ap (λ i. i.site) all.1, subst (λ (i : InUseView). IsBackRefusalOver g.P.RoomHistories.limits i.prefix.entries c.args.site true reply) (sym all.1) all.0)) c.back.ensures.in_use
