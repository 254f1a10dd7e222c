-- How a site, its request and the reply are read, step by step.
use Rattle.std.proofs.Common.{◌≡◌, ℕ, ◌-◌, ◌<◌, List, Some}
use Rattle.json.specs.Token.{Token}
use Rattle.base_types.specs.declared.op_name.TheConstants.{MAX_SITE}
use Rattle.wire_reader.specs.steps.Exchanges.{exchange_at, exchange_in}
use Rattle.wire_reader.specs.steps.Reading.{◌>>=◌, whole_in, field_at, end_at}
use Rattle.wire_reader.specs.steps.Requests.{request_of}
use Rattle.wire_reader.specs.steps.Replies.{reply_of}
use Rattle.wire_reader.specs.steps.Streams.{next_in, rest_in, list_opened}
use Rattle.wire_reader.proofs.Tokens.{list_steps, rest_then}

pub exchange_steps : (n : ℕ) (ts : List Token)
    → rest_in exchange_at n ts ≡ (rest_in (field_at (whole_in 1 MAX_SITE) (field_at request_of (field_at reply_of end_at))) n ts >>= λ q. Some ((q.0.0, (q.0.1.0, q.0.1.1.0)), q.1))
unfolding exchange_at
exchange_steps n ts = rest_then (field_at (whole_in 1 MAX_SITE) (field_at request_of (field_at reply_of end_at))) (λ p. Some (p.0, (p.1.0, p.1.1.0))) n ts

pub exchange_list : (n : ℕ) (ts : List Token) → 0 < n → next_in exchange_in n ts ≡ (list_opened ts >>= rest_in exchange_at (n - 1))
unfolding exchange_in
exchange_list n ts deep = list_steps exchange_at n ts deep
