use Rattle.std.proofs.Common.{◌∷◌, ◌++◌, [], ◌∙◌, ap, sym, subst}
use Rattle.std.specs.Prelude.{is_some}
use Rattle.rules.specs.Conflicts.{base}
use Rattle.rules.specs.declared.history.Op.{Op}
use Rattle.places.specs.steps.Changes.{AreChangesOf}
use Rattle.shape.specs.steps.Objects.{Stored}
use Rattle.shape.proofs.Additions.{grown_changes}
use Rattle.shape.proofs.shape.Shape.plan_change.Goals as goal

pub plan-requires-clause-changes : goal.plan-requires-clause-changes
plan-requires-clause-changes c =
    let op = c.args.op in
    let k = c.self.inside.changes.ops in
    let w = subst (λ (s : Stored). AreChangesOf s.object.creation.name (s.object.changes ++ op ∷ [])) (sym c.self.view_is) c.requires in
    let some = ap (λ (s : Stored). is_some (base s.object.changes op)) c.self.view_is ∙ ap (λ (o : Op). is_some (base c.args.self.now.object.changes o)) (sym c.deref.ensures) ∙ c.in_ok-known.ensures.some in
    grown_changes k op (subst (λ object. AreChangesOf object (k ++ op ∷ [])) (sym c.self.invariant.object) w) c.self.invariant.changes_on some
