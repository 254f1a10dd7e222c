use Rattle.std.proofs.Common.{◌≡◌, map, take}
use Rattle.version_groups.specs.steps.Steps.{candidate, incompatible_groups, is_none_of}
use Rattle.version_groups.proofs.step.candidates.Given as goal

abbrev pub invariant-loop-group : goal.invariant-loop-group
invariant-loop-group l = l.candidates.items ≡ map (candidate (is_none_of l.conflicting) l.place) (incompatible_groups (is_none_of l.conflicting) (take l.group-index l.groups))
