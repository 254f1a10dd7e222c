use Rattle.std.proofs.Common.{◌≡◌, true, arith, ap, ◌∙◌}
use Rattle.std.proofs.lemmas.Bool.{eq-eqb}
use Rattle.rules.specs.declared.history.Entry.TheVariants.{Join}
use Rattle.rules.specs.Records.{is_placed}
use Rattle.room_core.specs.Room.{with_entry}
use Rattle.room_core.specs.Answers.{Outcome}
use Rattle.room_core.specs.steps.Plans.{admitted, entry_added}
use Rattle.room_core.proofs.Accepted.{join_added, some_if_admitted}
use Rattle.room_core.proofs.room.RoomState.accept_join.Goals as goal

abbrev adds : (c : goal.After-carry_out) → entry_added c.in_ok-planned.planned.addition ≡ admitted c.args.self.now.room (Join c.args.site)
adds c =
    let room = c.args.self.now.room in
    let placed : is_placed room.entries (Join c.args.site) ≡ true = eq-eqb _ _ (omega (arith, c.if-site-sites.false, c.sites.ensures.sites)) in
    ap (λ (o : Outcome). o.1) c.in_ok-planned.ensures.0.0 ∙ join_added room c.args.site placed

pub returns-clause-accepted : goal.returns-clause-accepted
returns-clause-accepted c =
    c.carry_out.ensures.added
    ∙ some_if_admitted c.args.self.now.room (Join c.args.site) _ (adds c)

pub returns-clause-room : goal.returns-clause-room
returns-clause-room c = c.carry_out.ensures.room ∙ (λ i. with_entry (c.plan_join.ensures.1 i) (adds c i))
