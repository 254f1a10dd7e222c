-- What bytes are read as. A law of this crate determines it: bytes are read as a line exactly if
-- they are a text of it.
use Rattle.std.specs.Prelude.{ℕ, List, Option, Some, None, if◌then◌else◌}
use Rattle.serde_json.specs.Data.{Data}
use Rattle.base_types.specs.declared.op_name.TheConstants.{MAX_SITE}
use Rattle.wire.specs.declared.request.Request.{Request}
use Rattle.wire.specs.declared.reply.Reply.{Reply}
use Rattle.wire_reader.specs.steps.Reading.{◌>>=◌, items_in, whole_in, field_at, end_at}
use Rattle.wire_reader.specs.steps.Requests.{request_of}
use Rattle.wire_reader.specs.steps.Replies.{reply_of}
use Rattle.wire_reader.specs.steps.Reads.{text_in}
use Rattle.transcript.specs.declared.line.TranscriptLine.{TranscriptLine}
use Rattle.transcript.specs.Lines.{go_together}

-- these three, where request and reply may stand together
abbrev pub line_with : ℕ → Request → Reply → Option TranscriptLine
line_with site request reply =
    if go_together site request reply
    then Some (record { site = site; request = request; reply = reply }) else None

-- the line that these values are the parts of
unfoldable pub line_at : List Data → Option TranscriptLine
line_at ds =
    field_at (whole_in 1 MAX_SITE) (field_at request_of (field_at reply_of end_at)) ds
    >>= λ p. line_with p.0 p.1.0 p.1.1.0

-- the line that a JSON value is a form of
unfoldable pub line_of : Data → Option TranscriptLine
line_of d = items_in d >>= line_at

-- the line that bytes are a text of, if there is one
unfoldable pub line_read : List ℕ → Option TranscriptLine
line_read = text_in line_of
