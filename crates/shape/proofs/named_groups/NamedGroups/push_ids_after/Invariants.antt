use Rattle.std.proofs.Common.{◌≡◌, map, take}
use Rattle.shape.specs.steps.Kept.{id_at}
use Rattle.shape.proofs.named_groups.NamedGroups.push_ids_after.Given as goal

abbrev pub invariant-loop-group : goal.invariant-loop-group
invariant-loop-group l = l.ids.items ≡ map (id_at l.after) (take l.group l.groups.groups)
