use Rattle.std.proofs.Common.{◌∙◌, ap}
use Rattle.std.proofs.lemmas.List.Sorted.{IsPermutation-refl}
use Rattle.attributes.specs.steps.Pairs.{with_new_attrs}
use Rattle.attributes.proofs.Shown.{attributes_are}
use Rattle.attributes.proofs.attributes_of.Goals as goal

pub returns : goal.returns
returns c =
    let pairs = c.add_missing.new.pairs.items in
    attributes_are c.args.ops.now c.args.members.now c.args.initial.now c.in_ok-pairs.pairs.items pairs pairs c.requires.changes.1 c.rises.ensures c.requires.within c.requires.compatible
    c.in_ok-pairs.ensures.pairs (c.in_ok-add_missing.ensures.pairs ∙ ap (with_new_attrs c.in_ok-pairs.pairs.items) c.pairs.ensures.pairs) (IsPermutation-refl pairs) c.in_ok-add_missing.ensures.sorted
