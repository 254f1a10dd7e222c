use Rattle.std.proofs.Common.{◌-◌, length}
use Rattle.changes_by_site.specs.steps.Indexes.{AreBySite}
use Rattle.changes_by_site.proofs.by_site.BySite.catch_up.Given as goal

abbrev pub invariant-loop-self : goal.invariant-loop-self
invariant-loop-self l = AreBySite l.ops l.self

abbrev pub decreases-loop-self : goal.decreases-loop-self
decreases-loop-self l = length l.ops - l.self.len
