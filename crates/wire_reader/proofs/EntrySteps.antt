-- How what follows the word of an entry is read, step by step.
use Rattle.std.proofs.Common.{◌≡◌, ℕ, List, Some}
use Rattle.json.specs.Token.{Token}
use Rattle.base_types.specs.declared.op_name.TheConstants.{MAX_SITE}
use Rattle.rules.specs.declared.limits.TheConstants.Limits.{MAX_ENTRIES}
use Rattle.rules.specs.declared.history.Entry.TheVariants.{Operation, Join, Next}
use Rattle.wire_reader.specs.steps.Reading.{end_at, field_at, whole_in, name_in}
use Rattle.wire_reader.specs.steps.Bodies.{operation_at}
use Rattle.wire_reader.specs.steps.Reading.{◌>>=◌}
use Rattle.wire_reader.specs.steps.Entries.{entry_join_at, next_at, entry_change_at}
use Rattle.wire_reader.specs.steps.Streams.{rest_in}
use Rattle.wire_reader.proofs.Tokens.{rest_then}

pub join_steps : (n : ℕ) (ts : List Token) → rest_in entry_join_at n ts ≡ (rest_in (field_at (whole_in 1 MAX_SITE) end_at) n ts >>= λ q. Some ((Join q.0.0), q.1))
unfolding entry_join_at
join_steps n ts = rest_then (field_at (whole_in 1 MAX_SITE) end_at) (λ p. Some (Join p.0)) n ts

pub next_steps : (n : ℕ) (ts : List Token) → rest_in next_at n ts ≡ (rest_in (field_at (whole_in 0 MAX_ENTRIES) end_at) n ts >>= λ q. Some ((Next q.0.0), q.1))
unfolding next_at
next_steps n ts = rest_then (field_at (whole_in 0 MAX_ENTRIES) end_at) (λ p. Some (Next p.0)) n ts

pub change_steps : (word : List ℕ) (n : ℕ) (ts : List Token) → rest_in (entry_change_at word) n ts ≡ (rest_in (operation_at name_in word) n ts >>= λ q. Some ((Operation (record { name = q.0.0; seen = q.0.1.0; body = q.0.1.1 })), q.1))
unfolding entry_change_at
change_steps word n ts = rest_then (operation_at name_in word) (λ p. Some (Operation (record { name = p.0; seen = p.1.0; body = p.1.1 }))) n ts
