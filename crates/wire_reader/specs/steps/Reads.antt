-- What bytes are read as. The laws of this crate determine these functions: bytes are read as a
-- request, an entry or a reply exactly if they are a text of it.
use Rattle.std.specs.Prelude.{nat_le, List, ℕ, length, Option, None, if◌then◌else◌}
use Rattle.std.specs.Str.{is_utf8}
use Rattle.serde_json.specs.Data.{Data}
use Rattle.serde_json.specs.Read.{read}
use Rattle.rules.specs.declared.history.Entry.{Entry}
use Rattle.wire.specs.declared.request.TheConstants.{MAX_REQUEST_LEN}
use Rattle.wire.specs.declared.request.Request.{Request}
use Rattle.wire.specs.declared.note.NoteRequest.{NoteRequest}
use Rattle.wire.specs.declared.reply.Reply.{Reply}
use Rattle.wire_reader.specs.steps.Reading.{◌>>=◌}
use Rattle.wire_reader.specs.steps.Requests.{request_of}
use Rattle.wire_reader.specs.steps.Notes.{note_request_of}
use Rattle.wire_reader.specs.steps.Entries.{entry_of}
use Rattle.wire_reader.specs.steps.Replies.{reply_of}

-- the JSON value that bytes are a text of, if they are one
unfoldable pub json_of : List ℕ → Option Data
json_of bytes = if is_utf8 bytes then read bytes else None

-- what is read of the value that bytes are a text of
abbrev pub text_in : {X : Type 0} → (Data → Option X) → List ℕ → Option X
text_in reader bytes = json_of bytes >>= reader

-- the request that bytes are a text of, if there is one
unfoldable pub request_read : List ℕ → Option Request
request_read bytes =
    if nat_le (length bytes) MAX_REQUEST_LEN then text_in request_of bytes else None

-- the request about notes that bytes are a text of, if there is one
unfoldable pub note_request_read : List ℕ → Option NoteRequest
note_request_read bytes =
    if nat_le (length bytes) MAX_REQUEST_LEN then text_in note_request_of bytes else None

-- the entry that bytes are a text of, if there is one
unfoldable pub entry_read : List ℕ → Option Entry
entry_read = text_in entry_of

-- the reply that bytes are a text of, if there is one
unfoldable pub reply_read : List ℕ → Option Reply
reply_read = text_in reply_of
