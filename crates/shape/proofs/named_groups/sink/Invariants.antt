use Rattle.std.proofs.Common.{◌≤◌, slice_index_or, []}
use Rattle.shape.specs.steps.Kept.{is_less, named, Reordered}
use Rattle.shape.proofs.Sorting.{AlmostSorted}
use Rattle.shape.proofs.named_groups.sink.Given as goal

abbrev pub invariant-loop-at : goal.invariant-loop-at
invariant-loop-at l = record {
  up_to : l.at ≤ l.group;
  same : Reordered (named l.fn.groups l.fn.ids.items) (named l.groups l.ids.items);
  sorted : AlmostSorted is_less (λ k. slice_index_or l.ids.items k []) l.at l.group;
}

abbrev pub decreases-loop-at : goal.decreases-loop-at
decreases-loop-at l = l.at
