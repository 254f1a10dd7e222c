-- The notes of the sites of a room, as contracts see them.
use Rattle.std.specs.Prelude.{List, Option, None, slice_index_or}
use Rattle.base_types.specs.Texts.{Bytes}
use Rattle.wire.specs.Notes.{Notes}

-- places, each with the note of the site of its number, if that has one
abbrev pub NotePlaces : Type 0
NotePlaces = List (Option Bytes)

abbrev pub notes_at : NotePlaces → Notes
notes_at places site = slice_index_or places site None
