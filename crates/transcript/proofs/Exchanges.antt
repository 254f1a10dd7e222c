-- A line is read as a site, a request and a reply, which may then stand together.
use Rattle.std.proofs.Common.{◌≡◌, List, ℕ, Option, Some, None, refl}
use Rattle.std.specs.Prelude.{⊤}
use Rattle.serde_json.specs.Data.{Data}
use Rattle.base_types.specs.declared.op_name.TheConstants.{MAX_SITE}
use Rattle.wire.specs.declared.request.Request.{Request}
use Rattle.wire.specs.declared.reply.Reply.{Reply}
use Rattle.wire_reader.specs.steps.Exchanges.{Exchange, exchange_at, exchange_in}
use Rattle.wire_reader.specs.steps.Reading.{◌>>=◌, items_in, whole_in, field_at, end_at}
use Rattle.wire_reader.specs.steps.Requests.{request_of}
use Rattle.wire_reader.specs.steps.Replies.{reply_of}
use Rattle.wire_reader.specs.steps.Reads.{json_of, text_in}
use Rattle.transcript.specs.steps.Reads.{line_with, line_at, line_of, line_read}

-- the three without the end of their list
abbrev exchange : ℕ × (Request × (Reply × ⊤)) → Exchange
exchange p = (p.0, (p.1.0, p.1.1.0))

of_fields : (o : Option (ℕ × (Request × (Reply × ⊤)))) → (o >>= λ p. line_with p.0 p.1.0 p.1.1.0) ≡ ((o >>= λ p. Some (exchange p)) >>= λ e. line_with e.0 e.1.0 e.1.1)
of_fields None = refl
of_fields (Some p) = refl

of_items : (o : Option (List Data)) → (o >>= line_at) ≡ ((o >>= exchange_at) >>= λ e. line_with e.0 e.1.0 e.1.1)
unfolding line_at exchange_at
of_items None = refl
of_items (Some ds) = of_fields (field_at (whole_in 1 MAX_SITE) (field_at request_of (field_at reply_of end_at)) ds)

of_value : (o : Option Data) → (o >>= line_of) ≡ ((o >>= exchange_in) >>= λ e. line_with e.0 e.1.0 e.1.1)
unfolding line_of exchange_in
of_value None = refl
of_value (Some d) = of_items (items_in d)

pub line_steps : (bytes : List ℕ) → line_read bytes ≡ (text_in exchange_in bytes >>= λ e. line_with e.0 e.1.0 e.1.1)
unfolding line_read
line_steps bytes = of_value (json_of bytes)
