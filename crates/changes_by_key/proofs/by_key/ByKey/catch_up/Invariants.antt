use Rattle.std.proofs.Common.{◌-◌, length}
use Rattle.changes_by_key.specs.steps.Indexes.{AreByKey}
use Rattle.changes_by_key.proofs.by_key.ByKey.catch_up.Given as goal

abbrev pub invariant-loop-self : goal.invariant-loop-self
invariant-loop-self l = AreByKey l.ops l.self

abbrev pub decreases-loop-self : goal.decreases-loop-self
decreases-loop-self l = length l.ops - l.self.len
