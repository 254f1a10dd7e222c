use Rattle.std.proofs.Common.{◌≡◌, ◌∙◌}
use Rattle.std.specs.Prelude.{filter}
use Rattle.places.specs.steps.PlaceSet.{has}
use Rattle.version_ids.proofs.Scopes.{kept_low}
use Rattle.version_ids.proofs.names_in_conflict.Goals as goal

pub names_at-requires : goal.names_at-requires
names_at-requires g c =
    kept_low (g.R.Relation.size c.args.relation.now) c.args.group.now c.list_common.new.list.items c.deref.result.now (has c.args.conflicting.now) c.requires c.in_ok-list_common.ensures c.deref.ensures.value

pub returns : goal.returns
returns g c =
    let same : c.deref.result.now ≡ filter (has c.args.conflicting.now) c.args.group.now = c.deref.ensures.value ∙ c.in_ok-list_common.ensures in
    rw (← same) c.names_at.ensures
