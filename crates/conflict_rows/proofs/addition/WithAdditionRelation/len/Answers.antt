use Rattle.conflict_rows.proofs.Rows.{is_relation, changes_with_addition}
use Rattle.conflict_rows.proofs.addition.WithAdditionRelation.len.Goals as goal

pub returns-clause-relation : goal.returns-clause-relation
returns-clause-relation c =
    let changes = c.self.inside.changes.now in
    is_relation (changes_with_addition changes.ops c.self.inside.addition.now c.self.invariant.0 c.args.self.now c.self.view_is)
