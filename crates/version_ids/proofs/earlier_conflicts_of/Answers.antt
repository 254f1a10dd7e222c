use Rattle.places.specs.steps.PlaceSet.{has}
use Rattle.places.specs.steps.Relations.{places_in_conflict}
use Rattle.std.proofs.Common.{◌∙◌}
use Rattle.version_ids.proofs.Scopes.{some_low}
use Rattle.version_ids.proofs.earlier_conflicts_of.Goals as goal

pub earlier_conflicts-requires : goal.earlier_conflicts-requires
earlier_conflicts-requires g c =
    let n = g.R.Relation.size c.args.relation.now in
    let all = places_in_conflict (g.R.Relation.conflicts c.args.relation.now) n in
    some_low n c.args.scope.now c.deref.result.now (has all) c.requires (c.deref.ensures.value ∙ c.in_ok-others.ensures)
