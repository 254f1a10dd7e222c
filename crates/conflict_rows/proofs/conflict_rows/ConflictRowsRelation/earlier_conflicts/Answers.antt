use Rattle.std.proofs.Common.{◌≡◌, ◌<◌, ◌∙◌, ap, length, arith}
use Rattle.places.specs.steps.Changes.{Changes}
use Rattle.conflict_rows.specs.steps.Rows.{earlier_conflicts}
use Rattle.conflict_rows.proofs.Rows.{row_found, rows_length}
use Rattle.conflict_rows.proofs.conflict_rows.ConflictRowsRelation.earlier_conflicts.Goals as goal

pub index-requires : goal.index-requires
index-requires c =
    let size : length c.self.inside.ops.items ≡ length c.args.self.now.ops = ap (λ (s : Changes). length s.ops) c.self.view_is in
    omega (arith, size, rows_length c.self.inside.ops.items c.self.inside.rows.items c.self.invariant.rows_are, c.self.inside.rows.ok)

pub returns : goal.returns
returns c =
    let k = c.self.inside.ops.items in
    let size : length k ≡ length c.args.self.now.ops = ap (λ (s : Changes). length s.ops) c.self.view_is in
    let l : c.args.i < length k = omega arith in
    c.index.ensures
    ∙ row_found k c.self.inside.rows.items c.args.i c.index.result.now c.self.invariant.rows_are l
    ∙ ap (λ (s : Changes). earlier_conflicts s.ops c.args.i) c.self.view_is
