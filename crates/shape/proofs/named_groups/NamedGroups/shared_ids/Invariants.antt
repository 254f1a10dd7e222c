use Rattle.std.proofs.Common.{◌≡◌, ◌≤◌, length, max, take}
use Rattle.shape.proofs.named_groups.NamedGroups.shared_ids.Given as goal

abbrev pub invariant-loop-id : goal.invariant-loop-id
invariant-loop-id l = record {
  items : l.ids.items ≡ take l.id-index l.known;
  room : max 1 (length l.known) ≤ l.ids.capacity;
}
