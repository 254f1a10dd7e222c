use Rattle.std.proofs.Common.{◌≡◌, map, take}
use Rattle.std.specs.List.Sorted.{IsSorted}
use Rattle.rules.specs.Versions.{key_cmp}
use Rattle.places.specs.steps.Changes.{at}
use Rattle.attributes.specs.steps.Pairs.{with_new_attrs, given_backwards}
use Rattle.attributes.proofs.add_given.Given as goal

-- what there is so far with what the changes to come give
abbrev pub invariant-loop-index : goal.invariant-loop-index
invariant-loop-index l = (with_new_attrs l.pairs.items (given_backwards (map (at l.ops) (take l.index l.places))) ≡ with_new_attrs l.initial.pairs.items (given_backwards (map (at l.ops) l.places))) × IsSorted key_cmp l.pairs.items
