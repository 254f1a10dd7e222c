use Rattle.std.proofs.Common.{sym, ◌∙◌}
use Rattle.base_types.proofs.RoomNames.{room_name-IsUtf8}
use Rattle.base_types.proofs.room_name.name_text.Goals as goal

pub unreachable-requires : goal.unreachable-requires
unreachable-requires c = c.in_default-from_utf8.ensures.cases.0 (room_name-IsUtf8 _ (sym c.room_name_fault.ensures ∙ c.in_default.is))
