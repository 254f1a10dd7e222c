use Rattle.std.proofs.Common.{sym, ap, subst, refl, ◌∙◌}
use Rattle.room_core.specs.steps.Plans.{entry_added, order_refusal, IsPlanReady}
use Rattle.room_core.proofs.Replay.{refused_first}
use Rattle.room_core.proofs.room.RoomState.plan_placed.Goals as goal

pub returns-in-Some : goal.returns-in-Some
returns-in-Some c =
    let refused = sym (refused_first c.args.self.now.room c.args.op c.in-Some.refusal (ap (order_refusal c.args.self.now.room) (sym c.deref.ensures) ∙ sym c.in-Some.ensures)) in
    (((λ i. (c.refuse.ensures.reply i, entry_added (c.refuse.ensures.addition i))) ∙ refused, subst (IsPlanReady c.args.self.now) (sym c.refuse.ensures.addition) tt), refl)
