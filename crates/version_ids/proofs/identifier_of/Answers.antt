use Rattle.std.proofs.lemmas.Result.{IfOk-weaker}
use Rattle.places.specs.steps.PlaceSet.{places}
use Rattle.places.proofs.Rising.{among_places}
use Rattle.rules.specs.Groups.{in_conflict_with}
use Rattle.version_ids.proofs.Scopes.{has_of_all, identified}
use Rattle.version_ids.proofs.identifier_of.Goals as goal

pub returns : goal.returns
returns g c =
    let n = g.R.Relation.size c.args.relation.now in
    let is_conflict = g.R.Relation.conflicts c.args.relation.now in
    IfOk-weaker c.id_of_conflicting.result _ _
    (λ id e. identified is_conflict (g.R.Relation.name_at c.args.relation.now) (places n) c.args.group.now c.in_conflict.result.now id
    (has_of_all n c.args.group.now c.in_conflict.result.now (in_conflict_with is_conflict (places n)) (among_places n c.args.group.now c.rises.ensures c.requires) c.in_conflict.ensures) e) c.id_of_conflicting.ensures
