use Rattle.std.proofs.Common.{◌≡◌, ◌++◌, bytes_eq, drop, length, map, take, None}
use Rattle.indexmap.specs.IndexMap.{keys}
use Rattle.base_types.specs.Repeats.{repeat_from}
use Rattle.room_core.specs.declared.room.RoomState.{RoomState}
use Rattle.room_lock.specs.Passes.{PrefixView}
use Rattle.room_lock.specs.InOrder.{AreInOrder}
use Rattle.room_lock.specs.steps.InOrder.{openings_in, openings_of}
use Rattle.room_lock.proofs.making.make.Given as goal

abbrev pub invariant-loop-state : goal.invariant-loop-state
invariant-loop-state g l = record {
  can_next : (goal.iterator-loop-state g).can_next l.state-iterator;
  is_finite : (goal.iterator-loop-state g).is_finite l.state-iterator;
  parts : l.yielded ++ l.state-iterator.rest.items ≡ l.fn.states.items;
  names : keys l.rooms ≡ take (length l.yielded) l.names;
  apart : repeat_from bytes_eq (length l.yielded) (take (length l.yielded) l.names) (drop (length l.yielded) l.names) ≡ None;
  register : length l.register ≡ length l.yielded;
  records : map (λ (begun : PrefixView). begun.entries) l.begun.items ≡ map (λ (state : RoomState). state.room.entries) l.yielded;
  openings : openings_in l.rooms.entries ≡ openings_of l.begun.items;
  in_order : AreInOrder (keys l.rooms) (openings_of l.begun.items);
}
