-- The notes of a room.
use Rattle.std.specs.Prelude.{ℕ, ◌+◌, ◌==◌, zero, suc, List, [], ◌∷◌, Option, Some, None}
use Rattle.std.specs.Prelude.{if◌then◌else◌}
use Rattle.base_types.specs.Texts.{Bytes}
use Rattle.base_types.specs.declared.op_name.TheConstants.{MAX_SITE}
use Rattle.wire.specs.declared.note.NoteRequest.{NoteRequest}
use Rattle.wire.specs.declared.note.NoteRequest.TheVariants.{Set, Read}

abbrev pub Note : Type 0
Note = ℕ × Bytes

-- the note of each site that has one
abbrev pub Notes : Type 0
Notes = ℕ → Option Bytes

abbrev pub no_notes : Notes
no_notes site = None

-- a text as a note; the empty one is none
abbrev pub note_of : Bytes → Option Bytes
note_of [] = None
note_of (byte ∷ bytes) = Some (byte ∷ bytes)

abbrev pub with_note : ℕ → Option Bytes → Notes → Notes
with_note site note notes = λ other. if site == other then note else notes other

abbrev pub notes_after : ℕ → NoteRequest → Notes → Notes
notes_after site (Set text) notes = with_note site (note_of text) notes
notes_after site Read notes = notes

-- before other notes, that of a site, if it has one
abbrev pub note_before : ℕ → Option Bytes → List Note → List Note
note_before site None others = others
note_before site (Some text) others = (site, text) ∷ others

-- the notes of so many sites from one on, in order
abbrev pub notes_from : ℕ → ℕ → Notes → List Note
notes_from site zero notes = []
notes_from site (suc count) notes =
    note_before site (notes site) (notes_from (site + 1) count notes)

unfoldable pub all_notes : Notes → List Note
all_notes = notes_from 1 MAX_SITE
