use Rattle.std.proofs.Common.{sym, subst, ap, ◌∙◌}
use Rattle.std.specs.Arc.{arc_value}
use Rattle.std.specs.Map.{lookup}
use Rattle.base_types.specs.Names.{same_name}
use Rattle.rules.specs.declared.history.Op.{Op}
use Rattle.drawing.specs.Room.{room_of}
use Rattle.drawing.specs.steps.Additions.{CanAdd, CanCreate}
use Rattle.drawing.proofs.Replay.{new_name, pushed, replay_creation}
use Rattle.drawing.proofs.drawing.Drawing.add_creation.Goals as goal

pub insert_reserved-requires-clause-absent : goal.insert_reserved-requires-clause-absent
insert_reserved-requires-clause-absent c =
    let can = subst (λ s. CanAdd s (arc_value c.args.entry) c.args.op) (sym c.self.view_is) c.requires.operation in
    ap (λ (op : Op). lookup (same_name op.name) c.self.inside.objects.entries) c.deref.ensures
    ∙ new_name _ _ _ c.self.invariant c.args.op can.next

pub invariant_of-self : goal.invariant_of-self
invariant_of-self c =
    let can = subst (λ s. CanAdd s (arc_value c.args.entry) c.args.op) (sym c.self.view_is) c.requires.operation in
    let new = subst (λ s. CanCreate s c.args.op c.args.shape) (sym c.self.view_is) c.requires.creation in
    let room = room_of c.self.inside.limits c.self.inside.record.entries in
    let name = ap (λ (op : Op). op.name) c.deref.ensures in
    rw (c.push_reserved.ensures, c.add_reserved.ensures, c.insert_reserved.ensures, name)
    (pushed room _ _ (arc_value c.args.entry) _ can.operation
    (replay_creation room _ _ c.self.invariant c.args.op can.next can.allowed c.args.shape new.creation new.created))
