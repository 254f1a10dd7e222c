use Rattle.std.proofs.Common.{◌≡◌, ◌∙◌, [], ap, length, rules, sym}
use Rattle.std.proofs.lemmas.Result.{IfOk-weaker}
use Rattle.shape.specs.steps.Kept.{Named}
use Rattle.shape.proofs.Stays.{all_kept}
use Rattle.shape.proofs.named_groups.NamedGroups.ordered_ids.Goals as goal

pub returns-then-count-len-clause-named : goal.returns-then-count-len-clause-named
returns-then-count-len-clause-named c =
    let gs = c.args.groups.now.groups in
    let before : Named = c.args.self.now in
    let size : length gs ≡ length before.ids = sym c.count.ensures ∙ c.if-count-len.true ∙ c.len.ensures.value ∙ ap (λ (v : Named). length v.ids) c.self.view_is in
    let none : c.in_ok-newly.newly ≡ [] = search rules in
    IfOk-weaker c.shared_ids.result _ _ (λ ids e. record {
      covered = c.requires.ops;
      groups_are = c.requires.groups;
      ids_are = e ∙ all_kept c.args.before.now.ops c.args.after.now c.requires.after c.in_ok-newly.newly c.in_ok-newly.ensures before c.requires.before gs c.requires.grown size none;
    }) c.shared_ids.ensures.ids
