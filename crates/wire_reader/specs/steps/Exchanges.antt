-- What is read of a request of a site and the reply to it.
use Rattle.std.specs.Prelude.{ℕ, List, Option, Some}
use Rattle.serde_json.specs.Data.{Data}
use Rattle.base_types.specs.declared.op_name.TheConstants.{MAX_SITE}
use Rattle.wire.specs.declared.request.Request.{Request}
use Rattle.wire.specs.declared.reply.Reply.{Reply}
use Rattle.wire_reader.specs.steps.Reading.{◌>>=◌, items_in, whole_in, field_at, end_at}
use Rattle.wire_reader.specs.steps.Requests.{request_of}
use Rattle.wire_reader.specs.steps.Replies.{reply_of}

-- a site, its request, and the reply
abbrev pub Exchange : Type 0
Exchange = ℕ × (Request × Reply)

-- the values of such a list
unfoldable pub exchange_at : List Data → Option Exchange
exchange_at ds =
    field_at (whole_in 1 MAX_SITE) (field_at request_of (field_at reply_of end_at)) ds >>= λ p.
    Some (p.0, (p.1.0, p.1.1.0))

-- [SITE,REQUEST,REPLY]
unfoldable pub exchange_in : Data → Option Exchange
exchange_in d = items_in d >>= exchange_at
