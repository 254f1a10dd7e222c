use Rattle.std.proofs.Common.{◌≡◌, sym, ap, subst, refl, ◌∙◌, Some}
use Rattle.base_types.specs.Names.{Name}
use Rattle.rules.specs.declared.history.Op.{Op}
use Rattle.room_core.specs.Answers.{operation_by}
use Rattle.room_core.specs.steps.Plans.{entry_added, order_refusal, IsPlanReady}
use Rattle.room_core.proofs.Replay.{refused_first}
use Rattle.room_core.proofs.room.RoomState.plan_operation.Goals as goal

pub returns-in-Some-order_refusal : goal.returns-in-Some-order_refusal
returns-in-Some-order_refusal c =
    let room = c.args.self.now.room in
    let refusal = c.in-Some-order_refusal.refusal in
    let op : Name → Op = λ name. record { name = name; seen = c.args.seen; body = c.args.body } in
    let why : order_refusal room (operation_by c.args.site c.args.seq c.args.seen c.args.body) ≡ Some refusal = ap (λ name. order_refusal room (op name)) (sym c.in-Some.ensures.value) ∙ sym c.in-Some-order_refusal.ensures in
    let refused = sym (refused_first room (operation_by c.args.site c.args.seq c.args.seen c.args.body) refusal why) in
    (((λ i. (c.refuse.ensures.reply i, entry_added (c.refuse.ensures.addition i))) ∙ refused, subst (IsPlanReady c.args.self.now) (sym c.refuse.ensures.addition) tt), refl)
