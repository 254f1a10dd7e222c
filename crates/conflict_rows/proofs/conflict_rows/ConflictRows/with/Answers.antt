use Rattle.std.proofs.Common.{◌≡◌, ◌∙◌, sym, ap, subst, true}
use Rattle.std.specs.Prelude.{Contains}
use Rattle.std.proofs.lemmas.Bool.{and_from}
use Rattle.base_types.specs.Names.{is_op_name, is_site, is_seq}
use Rattle.rules.specs.declared.history.Op.{Op}
use Rattle.places.specs.steps.Changes.{Changes}
use Rattle.conflict_rows.proofs.Rows.{few_with_one_more}
use Rattle.conflict_rows.proofs.conflict_rows.ConflictRows.with.Goals as goal

pub new-requires-clause-few : goal.new-requires-clause-few
new-requires-clause-few c =
    let op : Op = c.deref.result.now in
    let name : is_op_name op.name ≡ true = and_from (is_site op.name.0) (is_seq op.name.1) c.site.ensures.range c.seq.ensures.range in
    few_with_one_more c.args.self.now.ops c.args.addition.now.op
    (subst (λ (s : Changes). (x : Op) → Contains s.ops x → is_op_name x.name ≡ true) c.self.view_is c.self.invariant.named)
    (sym (ap (λ (x : Op). is_op_name x.name) (c.deref.ensures ∙ c.op.ensures)) ∙ name)
    c.requires.changes.listed
