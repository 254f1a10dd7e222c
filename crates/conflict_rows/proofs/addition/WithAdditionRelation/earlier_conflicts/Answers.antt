use Rattle.std.proofs.Common.{◌≡◌, ◌∙◌, ap, length, arith}
use Rattle.conflict_rows.specs.steps.Rows.{earlier_conflicts}
use Rattle.conflict_rows.proofs.InConflict.{row_is_of_last, row_stays}
use Rattle.conflict_rows.proofs.Rows.{one_change_more}
use Rattle.conflict_rows.proofs.addition.WithAdditionRelation.earlier_conflicts.Goals as goal

pub returns-then-i-len : goal.returns-then-i-len
returns-then-i-len c =
    let k = c.self.inside.changes.now.ops in
    c.earlier_conflicts.ensures ∙ row_stays k c.self.inside.addition.now c.self.invariant.0 c.args.self.now c.self.view_is c.args.i (omega (arith, c.if-i-len.true, c.len.ensures.size))

pub returns-else-i-len : goal.returns-else-i-len
returns-else-i-len c =
    let k = c.self.inside.changes.now.ops in
    let a = c.self.inside.addition.now in
    let ops = c.args.self.now in
    let more = one_change_more k a c.self.invariant.0 ops c.self.view_is in
    let last : length k ≡ c.args.i = omega (arith, more) in
    c.row.ensures ∙ row_is_of_last k a c.self.invariant.0 ops c.self.view_is ∙ ap (earlier_conflicts ops) last
