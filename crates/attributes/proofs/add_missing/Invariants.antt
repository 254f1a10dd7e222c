use Rattle.std.proofs.Common.{◌≡◌, drop}
use Rattle.std.specs.List.Sorted.{IsSorted}
use Rattle.rules.specs.Versions.{key_cmp}
use Rattle.attributes.specs.steps.Pairs.{with_new_attrs}
use Rattle.attributes.proofs.add_missing.Given as goal

-- what there is so far with the pairs to come
abbrev pub invariant-loop-other : goal.invariant-loop-other
invariant-loop-other l = (with_new_attrs l.pairs.items (drop l.other-index l.others) ≡ with_new_attrs l.initial.pairs.items l.others) × IsSorted key_cmp l.pairs.items
