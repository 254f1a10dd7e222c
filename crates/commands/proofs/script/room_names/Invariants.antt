use Rattle.std.proofs.Common.{◌≡◌, take, true}
use Rattle.std.specs.List.{list_all}
use Rattle.base_types.specs.RoomNames.{is_first_name}
use Rattle.commands.specs.Names.{texts_of}
use Rattle.commands.proofs.script.room_names.Given as goal

abbrev pub invariant-loop-name : goal.invariant-loop-name
invariant-loop-name l = record {
  same : l.rooms.items ≡ texts_of (take l.name-index l.names);
  good : list_all is_first_name (texts_of (take l.name-index l.names)) ≡ true;
}
