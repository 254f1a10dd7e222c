use Rattle.std.proofs.Common.{◌≡◌, ◌∙◌, sym, subst, length, List, ℕ}
use Rattle.rules.specs.declared.history.Op.{Op}
use Rattle.base_types.specs.Names.{Name}
use Rattle.places.specs.steps.Changes.{Changes, IsAddition, conflicting_places, new_conflicts}
use Rattle.conflict_rows.specs.steps.Rows.{with_conflicts}
use Rattle.conflict_rows.proofs.InConflict.{addition_is}
use Rattle.conflict_rows.proofs.conflict_rows.ConflictRows.plan.Goals as goal

pub returns-clause-ready : goal.returns-clause-ready
returns-clause-ready c =
    let was : Changes = c.args.self.now in
    let op : Op = c.args.op in
    let row : List ℕ = c.in_ok-row.row in
    let conflicting : List ℕ = c.in_ok-row.conflicting in
    let row_is : row ≡ new_conflicts was.ops op = c.in_ok-row.ensures.row ∙ (λ i. new_conflicts was.ops (c.deref.ensures i)) in
    let conflicting_is : conflicting ≡ with_conflicts row (length was.ops) (conflicting_places was.ops) = c.in_ok-row.ensures.all in
    let planned : IsAddition was.object was.ops c.new.result =
    subst (IsAddition was.object was.ops) (sym c.new.ensures) (addition_is was.object was.ops op c.requires.changes c.args.base row conflicting c.requires.base row_is conflicting_is) in
    let object : c.planned_rows.new.self.object ≡ was.object = c.planned_rows.ensures.object in
    let ops : c.planned_rows.new.self.ops ≡ was.ops = c.planned_rows.ensures.ops in
    subst (λ (n : Name). IsAddition n c.planned_rows.new.self.ops c.new.result) (sym object) (subst (λ (k : List Op). IsAddition was.object k c.new.result) (sym ops) planned)
