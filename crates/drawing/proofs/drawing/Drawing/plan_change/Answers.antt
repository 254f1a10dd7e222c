use Rattle.std.proofs.Common.{sym, ap, ◌∙◌}
use Rattle.base_types.specs.Vectors.{counts}
use Rattle.rules.specs.declared.history.Op.{Op}
use Rattle.rules.specs.Operations.{object_of}
use Rattle.drawing.proofs.Refused.{not_counted}
use Rattle.drawing.proofs.drawing.Drawing.plan_change.Goals as goal

pub returns-then-not-has-clause-refusal : goal.returns-then-not-has-clause-refusal
returns-then-not-has-clause-refusal c =
    let o = c.args.op in
    let object = ap object_of (sym c.deref-2.ensures) ∙ sym c.object.ensures in
    λ n. not_counted c.args.self.now.room o c.requires.change (ap (λ (op : Op). counts op.seen (object_of o)) (sym c.deref.ensures) ∙ ap (counts c.deref.result.now.seen) object ∙ sym c.has.ensures ∙ c.if-not-has.true)
