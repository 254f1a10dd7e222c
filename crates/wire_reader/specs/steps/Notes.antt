-- What the readers of notes, and of requests about them, read from a JSON value.
use Rattle.std.specs.Prelude.{List, [], ◌∷◌, codes, Option, Some}
use Rattle.serde_json.specs.Data.{Data}
use Rattle.serde_json.specs.Find.{as_str}
use Rattle.base_types.specs.Texts.{Bytes, is_value_text}
use Rattle.base_types.specs.declared.op_name.TheConstants.{MAX_SITE}
use Rattle.wire.specs.Notes.{Note}
use Rattle.wire.specs.Rising.{rise, site_before}
use Rattle.wire.specs.declared.note.NoteRequest.{NoteRequest}
use Rattle.wire.specs.declared.note.NoteRequest.TheVariants.{Set, Read}
use Rattle.wire_reader.specs.steps.Reading.{◌>>=◌, passing, list_in, two_in, end_at, field_at}
use Rattle.wire_reader.specs.steps.Reading.{whole_in, Words, no_others, worded_message_in}

-- the text of a note
unfoldable pub note_text_in : Data → Option Bytes
note_text_in = passing is_value_text as_str

-- a site with its note
unfoldable pub note_in : Data → Option Note
note_in = two_in (whole_in 1 MAX_SITE) note_text_in

-- the notes of a room
unfoldable pub notes_in : Data → Option (List Note)
notes_in = passing (rise site_before) (list_in note_in)

-- what follows "note"
unfoldable pub set_at : List Data → Option NoteRequest
set_at ds = field_at note_text_in end_at ds >>= λ p. Some (Set p.0)

-- what follows "notes"
unfoldable pub read_at : List Data → Option NoteRequest
read_at ds = end_at ds >>= λ _. Some Read

abbrev pub note_words : Words NoteRequest
note_words = (codes "note", set_at) ∷ (codes "notes", read_at) ∷ []

-- the request about notes that a JSON value is a form of
unfoldable pub note_request_of : Data → Option NoteRequest
note_request_of = worded_message_in note_words no_others
