use Rattle.std.proofs.Common.{◌≡◌, sym, subst, ap, ◌∙◌, Some}
use Rattle.std.specs.Arc.{arc_value}
use Rattle.base_types.specs.Names.{same_name}
use Rattle.rules.specs.declared.history.Op.{Op}
use Rattle.rules.specs.Operations.{object_of}
use Rattle.shape.specs.steps.Objects.{with_change}
use Rattle.shape.specs.steps.Planned.{IsPlanned}
use Rattle.drawing.specs.Room.{room_of}
use Rattle.drawing.specs.steps.Additions.{CanAdd, CanChange}
use Rattle.drawing.proofs.AtPlace.{value_at, set_at}
use Rattle.drawing.proofs.Replay.{pushed, replay_change}
use Rattle.drawing.proofs.drawing.Drawing.add_change.Goals as goal

pub commit-requires : goal.commit-requires
commit-requires c =
    let can = subst (λ s. CanChange s c.args.place c.args.op c.args.planned) (sym c.self.view_is) c.requires.change in
    let there = value_at (same_name (object_of c.args.op)) c.self.inside.objects.entries c.args.place can.shape.at in
    let same : Some can.shape.shape ≡ Some c.in-Some.shape.now = sym can.shape.named ∙ sym there ∙ sym c.in-Some.ensures.value in
    let is : can.shape.shape ≡ c.in-Some.shape.now = cc in
    subst (λ d. IsPlanned d c.args.planned) is can.shape.holds

pub invariant_of-self : goal.invariant_of-self
invariant_of-self c =
    let operation = subst (λ s. CanAdd s (arc_value c.args.entry) c.args.op) (sym c.self.view_is) c.requires.operation in
    let can = subst (λ s. CanChange s c.args.place c.args.op c.args.planned) (sym c.self.view_is) c.requires.change in
    let room = room_of c.self.inside.limits c.self.inside.record.entries in
    let named = same_name (object_of c.args.op) in
    let there = sym (value_at named c.self.inside.objects.entries c.args.place can.shape.at) ∙ sym c.in-Some.ensures.value in
    rw (c.push_reserved.ensures, c.add_reserved.ensures, set_at named c.self.inside.objects.entries c.args.place c.commit.new.self can.shape.at)
    (pushed room _ _ (arc_value c.args.entry) _ operation.operation
    (replay_change room _ _ c.self.invariant c.args.op operation.next operation.allowed c.in-Some.shape.now c.commit.new.self can.change c.get_index_mut.ensures.unique there
    (c.commit.ensures ∙ ap (λ (o : Op). with_change c.in-Some.shape.now.object o) can.added)))
