use Rattle.std.proofs.Common.{◌≡◌, ◌++◌}
use Rattle.room_folder.proofs.Lists.{AreListsOf}
use Rattle.room_folder.proofs.open_rooms.lists_of.Given as goal

abbrev pub invariant-loop-room : goal.invariant-loop-room
invariant-loop-room l =
    goal.iterator-loop-room.can_next l.room-iterator × goal.iterator-loop-room.is_finite l.room-iterator
    × (l.yielded ++ l.room-iterator.rest.items ≡ l.fn.rooms.items)
    × AreListsOf l.yielded l.names.items l.states.items l.files.items
