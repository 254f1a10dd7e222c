use Rattle.std.proofs.Common.{length}
use Rattle.places.specs.steps.Changes.{at, is_conflict_of}
use Rattle.version_groups.proofs.Calm.{some_group}
use Rattle.shape.proofs.shape.Shape.commit.Goals as goal

pub replace-requires-clause-some : goal.replace-requires-clause-some
replace-requires-clause-some c =
    let k = c.self.inside.changes.ops in
    some_group (is_conflict_of k) (λ i. (at k i).name) (length k) c.self.inside.groups.groups.groups c.len.ensures.relation c.self.invariant.groups_are.groups_are
