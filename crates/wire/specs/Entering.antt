-- Which requests ask to be let into a room.
use Rattle.std.specs.Prelude.{Option, Some, None}
use Rattle.base_types.specs.Texts.{Bytes}
use Rattle.wire.specs.declared.request.Request.{Request}
use Rattle.wire.specs.declared.request.Request.TheVariants.{Join, Back}

-- the name of the room that a request asks to be let into, for the first time or again
abbrev pub room_to_enter : Request → Option Bytes
room_to_enter (Join name) = Some name
room_to_enter (Back name site) = Some name
room_to_enter _ = None
