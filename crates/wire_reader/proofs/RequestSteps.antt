-- How what follows the word of a request is read, step by step.
use Rattle.std.proofs.Common.{◌≡◌, ℕ, Bool, List, Some}
use Rattle.json.specs.Token.{Token}
use Rattle.base_types.specs.declared.op_name.TheConstants.{MAX_SEQ, MAX_SITE}
use Rattle.wire.specs.declared.request.TheConstants.{MAX_FROM}
use Rattle.wire.specs.declared.request.Request.TheVariants.{Join, Back, Change, Show, Pull, Leave}
use Rattle.wire.specs.declared.request.Request.TheVariants.{List as ListObjects}
use Rattle.wire_reader.specs.steps.Reading.{end_at, field_at, whole_in, room_in, name_in}
use Rattle.wire_reader.specs.steps.Bodies.{operation_at}
use Rattle.wire_reader.specs.steps.Reading.{◌>>=◌}
use Rattle.wire_reader.specs.steps.Requests.{join_at, back_at, change_at, show_at, list_at, pull_at, leave_at}
use Rattle.wire_reader.specs.steps.Streams.{rest_in}
use Rattle.wire_reader.proofs.Tokens.{rest_then}

pub join_steps : (n : ℕ) (ts : List Token) → rest_in join_at n ts ≡ (rest_in (field_at room_in end_at) n ts >>= λ q. Some ((Join q.0.0), q.1))
unfolding join_at
join_steps n ts = rest_then (field_at room_in end_at) (λ p. Some (Join p.0)) n ts

pub back_steps : (n : ℕ) (ts : List Token) → rest_in back_at n ts ≡ (rest_in (field_at room_in (field_at (whole_in 1 MAX_SITE) end_at)) n ts >>= λ q. Some ((Back q.0.0 q.0.1.0), q.1))
unfolding back_at
back_steps n ts = rest_then (field_at room_in (field_at (whole_in 1 MAX_SITE) end_at)) (λ p. Some (Back p.0 p.1.0)) n ts

pub change_steps : (word : List ℕ) (n : ℕ) (ts : List Token) → rest_in (change_at word) n ts ≡ (rest_in (operation_at (whole_in 1 MAX_SEQ) word) n ts >>= λ q. Some ((Change q.0.0 q.0.1.0 q.0.1.1), q.1))
unfolding change_at
change_steps word n ts = rest_then (operation_at (whole_in 1 MAX_SEQ) word) (λ p. Some (Change p.0 p.1.0 p.1.1)) n ts

pub show_steps : (n : ℕ) (ts : List Token) → rest_in show_at n ts ≡ (rest_in (field_at name_in end_at) n ts >>= λ q. Some ((Show q.0.0), q.1))
unfolding show_at
show_steps n ts = rest_then (field_at name_in end_at) (λ p. Some (Show p.0)) n ts

pub list_steps : (n : ℕ) (ts : List Token) → rest_in list_at n ts ≡ (rest_in (field_at (whole_in 0 MAX_FROM) end_at) n ts >>= λ q. Some ((ListObjects q.0.0), q.1))
unfolding list_at
list_steps n ts = rest_then (field_at (whole_in 0 MAX_FROM) end_at) (λ p. Some (ListObjects p.0)) n ts

pub pull_steps : (waits : Bool) (n : ℕ) (ts : List Token) → rest_in (pull_at waits) n ts ≡ (rest_in (field_at (whole_in 0 MAX_FROM) end_at) n ts >>= λ q. Some ((Pull q.0.0 waits), q.1))
unfolding pull_at
pull_steps waits n ts = rest_then (field_at (whole_in 0 MAX_FROM) end_at) (λ p. Some (Pull p.0 waits)) n ts

pub leave_steps : (n : ℕ) (ts : List Token) → rest_in leave_at n ts ≡ (rest_in (end_at) n ts >>= λ q. Some (Leave, q.1))
unfolding leave_at
leave_steps n ts = rest_then (end_at) (λ _. Some Leave) n ts
