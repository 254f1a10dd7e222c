use Rattle.std.proofs.Common.{◌≡◌, ◌∙◌, ap, sym, filter, length, List, ℕ}
use Rattle.std.proofs.lemmas.Result.{IfOk-weaker}
use Rattle.rules.specs.Groups.{in_conflict_with}
use Rattle.places.specs.steps.PlaceSet.{places}
use Rattle.version_ids.proofs.Scopes.{all_low, has_of_all, has_of_some, identified, whole}
use Rattle.version_ids.proofs.identifier_among.Goals as goal

pub conflicting_among-requires-clause-scope : goal.conflicting_among-requires-clause-scope
conflicting_among-requires-clause-scope g c = all_low (g.R.Relation.size c.args.relation.now) c.args.scope.now c.requires.scope

pub returns-then-count-len-clause-id : goal.returns-then-count-len-clause-id
returns-then-count-len-clause-id g c =
    let is_conflict = g.R.Relation.conflicts c.args.relation.now in
    let n = g.R.Relation.size c.args.relation.now in
    let scope = c.args.scope.now in
    let many : length scope ≡ n = sym c.count.ensures ∙ c.if-count-len.true ∙ c.len-len.ensures.size in
    let conflicting = c.in_conflict.ensures ∙ ap (λ (l : List ℕ). filter (in_conflict_with is_conflict l) (places n)) (sym (whole n scope c.requires.scope many)) in
    IfOk-weaker c.id_of_conflicting.result _ _
    (λ id e. identified is_conflict (g.R.Relation.name_at c.args.relation.now) scope c.args.group.now c.in_conflict.result.now id
    (has_of_all n c.args.group.now c.in_conflict.result.now (in_conflict_with is_conflict scope) c.requires.group conflicting) e) c.id_of_conflicting.ensures

pub returns-clause-id : goal.returns-clause-id
returns-clause-id g c =
    let is_conflict = g.R.Relation.conflicts c.args.relation.now in
    let conflicting = c.in_ok-conflicting.conflicting in
    IfOk-weaker c.id_of_conflicting-2.result _ _
    (λ id e. identified is_conflict (g.R.Relation.name_at c.args.relation.now) c.args.scope.now c.args.group.now conflicting id
    (has_of_some c.args.group.now conflicting (in_conflict_with is_conflict c.args.scope.now) c.in_ok-conflicting.ensures) e) c.id_of_conflicting-2.ensures
