use Rattle.std.proofs.Common.{◌≡◌, ◌<◌, Bool, true, cond, length, sym, ap, subst, ◌∙◌, None, Some}
use Rattle.rules.specs.declared.history.Entry.TheVariants.{Next}
use Rattle.rules.specs.Records.{admits}
use Rattle.rules.proofs.Conditions.{room_for_end}
use Rattle.drawing.specs.Room.{Room, with_entry}
use Rattle.drawing.specs.steps.State.{DrawingState}
use Rattle.room_core.specs.steps.Plans.{IsAdmitted}
use Rattle.room_core.proofs.room.RoomState.end.Goals as goal

pub plan_end-requires : goal.plan_end-requires
plan_end-requires c =
    let room = c.args.self.now.room in
    subst (λ (s : DrawingState). length s.room.entries < s.room.limits.entries) (sym c.self.view_is)
    (room_for_end room.limits room.entries c.args.count (sym c.may_end.ensures ∙ c.if-not-may_end.false))

pub add-requires-clause-admitted : goal.add-requires-clause-admitted
add-requires-clause-admitted c =
    let r = c.self.inside.drawing.room in
    let may : admits r.limits r.entries (Next c.args.count) ≡ true = ap (λ (s : DrawingState). admits s.room.limits s.room.entries (Next c.args.count)) c.self.view_is ∙ sym c.may_end.ensures ∙ c.if-not-may_end.false in
    subst (λ (room : Room). IsAdmitted room c.in_ok-addition.addition.entry) (sym c.plan_end.ensures.room) (subst (IsAdmitted r) (sym c.in_ok-addition.ensures.entry) may)

pub returns-clause-room : goal.returns-clause-room
returns-clause-room c =
    let may : admits c.args.self.now.room.limits c.args.self.now.room.entries (Next c.args.count) ≡ true = sym c.may_end.ensures ∙ c.if-not-may_end.false in
    c.add.ensures
    ∙ (λ i. with_entry (c.plan_end.ensures.room i) (Some (c.in_ok-addition.ensures.entry i)))
    ∙ ap (λ (s : DrawingState). with_entry s.room (Some (Next c.args.count))) c.self.view_is
    ∙ ap (λ (b : Bool). with_entry c.args.self.now.room (cond b (Some (Next c.args.count)) None)) (sym may)
