use Rattle.std.proofs.Common.{subst, sym, List}
use Rattle.rules.specs.declared.history.Op.{Op}
use Rattle.changes_by_site.specs.steps.Indexes.{AreInOrder}
use Rattle.changes_by_site.proofs.Sited.{in_order}
use Rattle.conflict.proofs.object_changes.ObjectChanges.known.Goals as goal

pub known-requires-clause-order : goal.known-requires-clause-order
known-requires-clause-order c = subst (λ (k : List Op). AreInOrder k) (sym c.ops.ensures.changes) (in_order c.ops.ensures.object.listed)
