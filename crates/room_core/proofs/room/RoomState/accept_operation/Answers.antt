use Rattle.std.proofs.Common.{◌≡◌, true, sym, ap, ◌∙◌}
use Rattle.rules.specs.declared.history.Op.{Op}
use Rattle.rules.specs.declared.history.Entry.TheVariants.{Operation}
use Rattle.rules.specs.Records.{is_placed}
use Rattle.room_core.specs.Room.{with_entry}
use Rattle.room_core.specs.Answers.{Outcome, operation_answer}
use Rattle.room_core.specs.steps.Plans.{admitted, entry_added}
use Rattle.room_core.proofs.Accepted.{operation_added, some_if_admitted}
use Rattle.room_core.proofs.room.RoomState.accept_operation.Goals as goal

abbrev adds : (c : goal.After-carry_out) → entry_added c.in_ok-planned.planned.addition ≡ admitted c.args.self.now.room (Operation c.args.op.now)
adds c =
    let room = c.args.self.now.room in
    let placed : is_placed room.entries (Operation c.args.op.now) ≡ true = sym c.is_placed.ensures ∙ c.if-not-is_placed.false in
    ap (λ (o : Outcome). o.1) c.in_ok-planned.ensures.0.0 ∙ ap (λ (op : Op). (operation_answer room op).1) (c.in_ok-copied.ensures ∙ c.in_ok-copy.ensures) ∙ operation_added room c.args.op.now placed

pub returns-clause-accepted : goal.returns-clause-accepted
returns-clause-accepted c =
    c.carry_out.ensures.added
    ∙ some_if_admitted c.args.self.now.room (Operation c.args.op.now) _ (adds c)

pub returns-clause-room : goal.returns-clause-room
returns-clause-room c = c.carry_out.ensures.room ∙ (λ i. with_entry (c.plan_placed.ensures.1 i) (adds c i))
