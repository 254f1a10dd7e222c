use Rattle.std.proofs.Common.{◌∙◌}
use Rattle.std.specs.List.{list_any}
use Rattle.rules.specs.steps.Keys.{gives_another}
use Rattle.rules.proofs.Keys.{differ_by_pairs}
use Rattle.rules.proofs.pairs.Pairs.differ.Goals as goal

pub returns : goal.returns
returns c = c.do_differ.ensures ∙ (λ i. list_any (λ pair. gives_another pair.0 pair.1 (c.pairs-others.ensures.pairs i)) (c.pairs.ensures.pairs i))
    ∙ differ_by_pairs c.args.self.now c.args.others.now c.pairs.ensures.range c.pairs-others.ensures.range
