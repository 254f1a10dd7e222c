use Rattle.std.specs.List.Sorted.{IsSortedWithin}
use Rattle.shape.specs.steps.Kept.{is_less, named, Reordered}
use Rattle.shape.proofs.named_groups.sort.Given as goal

abbrev pub invariant-loop-group : goal.invariant-loop-group
invariant-loop-group l = record {
  same : Reordered (named l.fn.groups l.fn.ids.items) (named l.groups l.ids.items);
  sorted : IsSortedWithin is_less l.ids.items 0 l.group;
}
