use Rattle.std.proofs.Common.{◌∙◌, ap, sym, subst}
use Rattle.shape.specs.steps.Kept.{AreGroupsOf, Named}
use Rattle.shape.proofs.Stays.{groups_go_on}
use Rattle.shape.proofs.named_groups.NamedGroups.plan.Goals as goal

pub plan-requires-clause-groups : goal.plan-requires-clause-groups
plan-requires-clause-groups c =
    let k = c.args.before.now.ops in
    groups_go_on k c.args.after.now c.requires.after c.self.inside.groups.groups c.self.inside.groups.ops
    (ap (λ (v : Named). v.groups.ops) c.self.view_is ∙ c.requires.before.covered)
    (subst (λ (v : Named). AreGroupsOf k v.groups.groups) (sym c.self.view_is) c.requires.before.groups_are)
