use Rattle.std.proofs.Common.{◌-◌}
use Rattle.version_groups.proofs.Exact.{groups_below}
use Rattle.version_groups.proofs.step.groups_with_last.Goals as goal

-- the places of the kept groups are below the new one
pub step-requires : goal.step-requires
step-requires g c =
    rw (c.len-place.ensures.size) (groups_below (g.R.Relation.conflicts c.args.relation.now) (g.R.Relation.size c.args.relation.now - 1) c.args.kept.now c.requires.groups)
