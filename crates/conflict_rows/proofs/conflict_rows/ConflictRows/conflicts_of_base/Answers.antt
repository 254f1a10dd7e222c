use Rattle.std.proofs.Common.{◌≡◌, ◌∙◌, List, ℕ, true, ap, length, subst}
use Rattle.std.specs.Prelude.{filter, IfSome, Option}
use Rattle.std.proofs.lemmas.Result.{IfOk-weaker}
use Rattle.places.specs.steps.PlaceSet.{has, is_within, places, with_place}
use Rattle.places.specs.steps.Changes.{AreChangesOf, Changes, at, base_places, is_conflict_of}
use Rattle.conflict_rows.specs.steps.Rows.{conflicts_below}
use Rattle.conflict_rows.proofs.Inherited.{stands_for_all}
use Rattle.conflict_rows.proofs.conflict_rows.ConflictRows.conflicts_of_base.Goals as goal

pub returns : goal.returns
returns c =
    let k = c.args.self.now.ops in
    let last = c.in-Some.last in
    let changes : AreChangesOf c.self.inside.object k = subst (λ (s : Changes). AreChangesOf c.self.inside.object s.ops) c.self.view_is c.self.invariant.changes.listed in
    IfOk-weaker c.conflicting_places-2.result _ _ (λ conflicting e.
    e ∙ ap (λ (scope : List ℕ). filter (conflicts_below (is_conflict_of k) scope (length k)) (places (length k))) c.in_ok-scope.ensures
    ∙ stands_for_all k changes c.args.based.now last c.requires
    (subst (λ (found : Option ℕ). IfSome found (λ m. has c.args.based.now m ≡ true)) c.in-Some.is c.in_ok-last.ensures.last)
    (subst (λ (found : Option ℕ). IfSome found (λ m. is_within c.args.based.now (with_place m (base_places k (at k m))) ≡ true)) c.in-Some.is c.in_ok-last.ensures.all)) c.conflicting_places-2.ensures
