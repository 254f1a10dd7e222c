use Rattle.std.proofs.Common.{◌≡◌, ◌∷◌, ◌++◌, [], ◌∙◌, List, ap, arith, length, sym, subst}
use Rattle.rules.specs.declared.history.Op.{Op}
use Rattle.rules.specs.Bodies.{is_change_body}
use Rattle.places.specs.steps.PlaceSet.{places}
use Rattle.places.specs.steps.Changes.{conflicting_places, is_conflict_of, AreChangesOf}
use Rattle.version_groups.proofs.Calm.{calm_count}
use Rattle.shape.specs.steps.Objects.{Stored}
use Rattle.shape.proofs.Fresh.{kept_changes}
use Rattle.shape.proofs.Refusals.{no_refusal}
use Rattle.shape.proofs.Calm.{empty_if, ids_alone, named_alone}
use Rattle.shape.proofs.shape.Shape.one_group.Goals as goal

pub returns-clause-groups : goal.returns-clause-groups
returns-clause-groups c =
    let more : List Op = c.args.self.now.object.changes ++ c.args.addition.now.op ∷ [] in
    let ops : c.with-all.result ≡ more = c.with-all.ensures ∙ ap (λ (s : Stored). s.object.changes ++ c.args.addition.now.op ∷ []) c.self.view_is in
    let none : conflicting_places more ≡ [] = ap conflicting_places (sym ops) ∙ sym c.in_conflict.ensures ∙ empty_if c.lowest_place.result c.in_conflict.result.now c.lowest_place.ensures (sym c.is_some.ensures ∙ c.if-is_some.false) in
    named_alone more none c.in_ok-first_places.field-0 (c.in_ok-first_places.ensures ∙ ap places (c.len.ensures.size ∙ ap length ops))

pub returns-clause-ids : goal.returns-clause-ids
returns-clause-ids c =
    let d = c.args.self.now.object in
    let more : List Op = d.changes ++ c.args.addition.now.op ∷ [] in
    let ops : c.with-all.result ≡ more = c.with-all.ensures ∙ ap (λ (s : Stored). s.object.changes ++ c.args.addition.now.op ∷ []) c.self.view_is in
    let none : conflicting_places more ≡ [] = ap conflicting_places (sym ops) ∙ sym c.in_conflict.ensures ∙ empty_if c.lowest_place.result c.in_conflict.result.now c.lowest_place.ensures (sym c.is_some.ensures ∙ c.if-is_some.false) in
    ids_alone more none d.creation (ap (λ (s : Stored). is_change_body s.object.creation.body) (sym c.self.view_is) ∙ c.self.invariant.is_creation) c.requires.addition.changes.listed

pub returns-clause-accepted : goal.returns-clause-accepted
returns-clause-accepted c =
    let d = c.args.self.now.object in
    let op = c.args.addition.now.op in
    let more : List Op = d.changes ++ op ∷ [] in
    let ops : c.with-all.result ≡ more = c.with-all.ensures ∙ ap (λ (s : Stored). s.object.changes ++ op ∷ []) c.self.view_is in
    let none : conflicting_places more ≡ [] = ap conflicting_places (sym ops) ∙ sym c.in_conflict.ensures ∙ empty_if c.lowest_place.result c.in_conflict.result.now c.lowest_place.ensures (sym c.is_some.ensures ∙ c.if-is_some.false) in
    let created = ap (λ (s : Stored). is_change_body s.object.creation.body) (sym c.self.view_is) ∙ c.self.invariant.is_creation in
    let changes = subst (λ (s : Stored). AreChangesOf s.object.creation.name s.object.changes) c.self.view_is (kept_changes c.self.invariant) in
    let limit : c.versions-limit.result ≡ d.limits.versions = c.versions-limit.ensures.value ∙ ap (λ (s : Stored). s.object.limits.versions) c.self.view_is in
    let count = calm_count (is_conflict_of more) (length more) none in
    no_refusal d op created changes c.requires.addition.changes.listed c.requires.base c.requires.alive c.requires.fits (omega (arith, limit, count))
