use Rattle.std.proofs.lemmas.Result.{IfOk-weaker}
use Rattle.rules.specs.Groups.{in_conflict_with}
use Rattle.version_ids.proofs.Scopes.{left_compatible}
use Rattle.version_ids.proofs.compatible_places.Goals as goal

pub returns : goal.returns
returns g c =
    let test = in_conflict_with (g.R.Relation.conflicts c.args.relation.now) c.args.named.now in
    IfOk-weaker c.without.result _ _ (λ kept e. left_compatible c.args.known.now c.in_ok-conflicting.conflicting kept test c.in_ok-conflicting.ensures e) c.without.ensures
