use Rattle.std.proofs.Common.{◌∙◌, ◌&&◌, ℕ, Bool, refl, sym}
use Rattle.std.specs.Prelude.{filter}
use Rattle.std.proofs.lemmas.Result.{IfOk-weaker}
use Rattle.rules.specs.Groups.{in_conflict_with}
use Rattle.rules.proofs.Lists.{filter_agree}
use Rattle.places.specs.steps.PlaceSet.{has}
use Rattle.places.specs.steps.Relations.{places_in_conflict}
use Rattle.version_ids.specs.steps.Scopes.{is_conflicting}
use Rattle.version_ids.proofs.Earlier.{conflicts_among, listed_conflicts}
use Rattle.version_ids.proofs.Scopes.{all_low, filter_both, filtered_among, kept_of, low, some_low}
use Rattle.version_ids.proofs.conflicting_among.Goals as goal

pub those_conflicting-requires : goal.those_conflicting-requires
those_conflicting-requires g c =
    let n = g.R.Relation.size c.args.relation.now in
    let all = places_in_conflict (g.R.Relation.conflicts c.args.relation.now) n in
    some_low n c.args.among.now c.deref.result.now (has all) (all_low n c.args.among.now c.requires.among) (c.deref.ensures.value ∙ c.in_ok-places.ensures)

pub returns : goal.returns
returns g c =
    let n = g.R.Relation.size c.args.relation.now in
    let is_conflict = g.R.Relation.conflicts c.args.relation.now in
    let all = places_in_conflict is_conflict n in
    let scope = c.args.scope.now in
    let among = c.args.among.now in
    let earlier = c.in_ok-earlier.earlier in
    let test : ℕ → Bool = is_conflicting is_conflict scope earlier in
    IfOk-weaker c.those_conflicting.result _ _ (λ conflicting e.
    kept_of n (filter (has all) among) conflicting c.deref.result.now test (filtered_among n among c.requires.among (has all)) (c.deref.ensures.value ∙ c.in_ok-places.ensures) e
    ∙ sym (filter_both (has all) test among)
    ∙ filter_agree (λ x. has all x && test x) (in_conflict_with is_conflict scope) among (λ x m.
    let l = low n among c.requires.among x m in
    listed_conflicts is_conflict n scope c.requires.scope x l (test x)
    (conflicts_among is_conflict n (g.R.Relation.name_at c.args.relation.now) c.len.ensures.relation scope (filter (has all) scope) earlier c.requires.scope refl c.in_ok-earlier.ensures x l)))
    c.those_conflicting.ensures
