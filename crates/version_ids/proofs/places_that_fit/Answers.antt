use Rattle.std.proofs.Common.{refl}
use Rattle.rules.specs.steps.NamedGroups.{is_named}
use Rattle.version_ids.proofs.Scopes.{kept_low}
use Rattle.version_ids.proofs.places_that_fit.Goals as goal

pub compatible_places-requires-clause-named : goal.compatible_places-requires-clause-named
compatible_places-requires-clause-named g c =
    kept_low (g.R.Relation.size c.args.relation.now) c.args.known.now c.in_ok-named.named c.in_ok-named.named (is_named (g.R.Relation.name_at c.args.relation.now) c.args.id.now)
    c.requires c.in_ok-named.ensures refl
