use Rattle.std.proofs.Common.{subst, length}
use Rattle.rules.specs.Conflicts.{conflict}
use Rattle.places.specs.steps.Relations.{IsRelation}
use Rattle.places.specs.steps.Changes.{at, Changes}
use Rattle.conflict_rows.proofs.Rows.{is_relation}
use Rattle.conflict_rows.proofs.conflict_rows.ConflictRowsRelation.len.Goals as goal

pub returns-clause-relation : goal.returns-clause-relation
returns-clause-relation c =
    subst (λ (s : Changes). IsRelation (length s.ops) (λ i. (at s.ops i).name) (λ i j. conflict s.ops (at s.ops i) (at s.ops j))) c.self.view_is (is_relation c.self.invariant.changes)
