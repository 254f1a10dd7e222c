use Rattle.std.proofs.Common.{◌∙◌, ap, sym, subst}
use Rattle.rules.specs.Bodies.{is_change_body}
use Rattle.places.specs.steps.Changes.{AreChangesOf}
use Rattle.shape.specs.steps.Objects.{Stored}
use Rattle.shape.proofs.Fresh.{kept_changes}
use Rattle.shape.proofs.Refusals.{no_room_refusal, of_error}
use Rattle.shape.proofs.shape.Shape.ground_of.Goals as goal

pub returns-in_err-keys-clause-refusal : goal.returns-in_err-keys-clause-refusal
returns-in_err-keys-clause-refusal c =
    let d = c.args.self.now.object in
    let created = ap (λ (s : Stored). is_change_body s.object.creation.body) (sym c.self.view_is) ∙ c.self.invariant.is_creation in
    let changes = subst (λ (s : Stored). AreChangesOf s.object.creation.name s.object.changes) c.self.view_is (kept_changes c.self.invariant) in
    of_error c.from_residual-in_err-keys.result _ c.in_err-keys.field-0.0 c.from_residual-in_err-keys.ensures.1
    (no_room_refusal d c.args.op.now created changes c.requires c.in_ok-base.ensures.some c.in_ok-base.ensures.alive c.in_err-keys.field-0.0 c.in_err-keys.ensures.refusal)
