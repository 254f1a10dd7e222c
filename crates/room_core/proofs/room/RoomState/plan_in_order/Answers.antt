use Rattle.std.proofs.Common.{◌≡◌, length, sym, ap, subst, ◌∙◌, None, Some}
use Rattle.rules.specs.declared.history.Entry.TheVariants.{Operation}
use Rattle.rules.specs.Records.{is_placed}
use Rattle.wire.specs.declared.reply.Reply.TheVariants.{No}
use Rattle.drawing.specs.declared.fault.AddFault.TheVariants.{NoMemory, Refused}
use Rattle.drawing.specs.steps.Additions.{IsNext, body_refusal}
use Rattle.drawing.specs.steps.Faults.{refusal_of_add_fault}
use Rattle.drawing.specs.Room.{Room}
use Rattle.drawing.specs.steps.State.{DrawingState}
use Rattle.room_core.specs.Answers.{operation_answer}
use Rattle.room_core.specs.steps.Plans.{entry_added, order_refusal, outcome, reply_by, IsAdmitted, IsPlanReady}
use Rattle.room_core.proofs.Replay.{admitted, answered, may_be_next, reply_is}
use Rattle.room_core.proofs.room.RoomState.plan_in_order.Goals as goal

pub plan-requires : goal.plan-requires
plan-requires c =
    subst (λ (s : DrawingState). IsNext s.room c.args.op) (sym c.self.view_is)
    (may_be_next c.args.self.now.room c.args.op c.requires.placed c.requires.order)

pub returns-in-Ok : goal.returns-in-Ok
returns-in-Ok c =
    let r = c.self.inside.drawing.room in
    let o = c.args.op in
    let plan = c.in-Ok.ensures.planned in
    let placed = ap (λ (s : DrawingState). is_placed s.room.entries (Operation o)) c.self.view_is ∙ c.requires.placed in
    let ordered = ap (λ (s : DrawingState). order_refusal s.room o) c.self.view_is ∙ c.requires.order in
    let reply = c.answer_added.ensures.reply ∙ (λ i. reply_by (length (c.plan.ensures.room i).entries) (c.deref.ensures i).name (plan.ids i)) ∙ reply_is r o in
    let entry = c.answer_added.ensures.entry ∙ ap Some plan.entry in
    let may = subst (IsAdmitted r) (sym plan.entry) (admitted r o placed ordered c.in-Ok.ensures.allowed) in
    subst (λ (s : DrawingState). ((outcome c.answer_added.result ≡ operation_answer s.room o) × IsPlanReady c.plan.new.self c.answer_added.result.addition) × (c.plan.new.self.room ≡ s.room)) c.self.view_is (
      (
        (λ i. (reply i, entry i)) ∙ sym (answered r o placed ordered None c.in-Ok.ensures.allowed),
        c.answer_added.ensures.ready c.plan.new.self plan.ready (subst (λ (room : Room). IsAdmitted room c.in-Ok.addition.entry) (sym c.plan.ensures.room) may),
      ),
      c.plan.ensures.room,
    )

pub returns-in-Err-Refused : goal.returns-in-Err-Refused
returns-in-Err-Refused c =
    let r = c.self.inside.drawing.room in
    let o = c.args.op in
    let refusal = c.in-Err-Refused.refusal in
    let result = c.refuse.result in
    let placed = ap (λ (s : DrawingState). is_placed s.room.entries (Operation o)) c.self.view_is ∙ c.requires.placed in
    let ordered = ap (λ (s : DrawingState). order_refusal s.room o) c.self.view_is ∙ c.requires.order in
    let why : body_refusal r o ≡ Some refusal =
    c.in-Err-Refused.ensures.refusal (λ n. let e : Refused refusal ≡ NoMemory = sym c.in-Err-Refused.field-0-is ∙ n in cc) ∙ ap refusal_of_add_fault c.in-Err-Refused.field-0-is in
    let reply = c.refuse.ensures.reply ∙ (λ i. No (length (c.plan.ensures.room i).entries) (c.in-Err-Refused.refusal-is i)) in
    subst (λ (s : DrawingState). ((outcome result ≡ operation_answer s.room o) × IsPlanReady c.plan.new.self result.addition) × (c.plan.new.self.room ≡ s.room)) c.self.view_is (
      (
        (λ i. (reply i, entry_added (c.refuse.ensures.addition i))) ∙ sym (answered r o placed ordered (Some refusal) why),
        subst (IsPlanReady c.plan.new.self) (sym c.refuse.ensures.addition) tt,
      ),
      c.plan.ensures.room,
    )
