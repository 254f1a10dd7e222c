use Rattle.std.proofs.Common.{◌≡◌, map, take}
use Rattle.version_groups.specs.steps.Steps.{group_after, is_none_of}
use Rattle.version_groups.proofs.step.grown_groups.Given as goal

abbrev pub invariant-loop-group : goal.invariant-loop-group
invariant-loop-group l = l.next.items ≡ map (group_after (is_none_of l.conflicting) l.place) (take l.group-index l.groups)
