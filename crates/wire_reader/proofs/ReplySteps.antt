-- How what follows the word of a reply is read, step by step.
use Rattle.std.proofs.Common.{◌≡◌, ℕ, List, Some}
use Rattle.json.specs.Token.{Token}
use Rattle.base_types.specs.declared.op_name.TheConstants.{MAX_SITE}
use Rattle.wire.specs.declared.request.TheConstants.{MAX_FROM}
use Rattle.wire.specs.declared.reply.Reply.TheVariants.{Joined, Returned, Made, Taken, Versions}
use Rattle.wire.specs.declared.reply.Reply.TheVariants.{Objects, Entries, Left, Notes, Renewed, No}
use Rattle.wire_reader.specs.steps.Reading.{list_in, end_at, field_at, whole_in}
use Rattle.wire_reader.specs.steps.Reading.{name_in}
use Rattle.wire_reader.specs.steps.Reading.{kind_in, room_in}
use Rattle.wire_reader.specs.steps.Entries.{entry_of}
use Rattle.wire_reader.specs.steps.Reading.{◌>>=◌}
use Rattle.wire_reader.specs.steps.Replies.{joined_at, returned_at, made_at, taken_at, versions_at, objects_at, entries_at, left_at, notes_reply_at, renewed_at, no_at, at_in, ids_in, versions_in, object_in, refusal_fields}
use Rattle.wire_reader.specs.steps.Notes.{notes_in}
use Rattle.wire_reader.specs.steps.Streams.{rest_in}
use Rattle.wire_reader.proofs.Tokens.{rest_then}

pub joined_steps : (n : ℕ) (ts : List Token) → rest_in joined_at n ts ≡ (rest_in (field_at at_in (field_at (whole_in 1 MAX_SITE) end_at)) n ts >>= λ q. Some ((Joined q.0.0 q.0.1.0), q.1))
unfolding joined_at
joined_steps n ts = rest_then (field_at at_in (field_at (whole_in 1 MAX_SITE) end_at)) (λ p. Some (Joined p.0 p.1.0)) n ts

pub returned_steps : (n : ℕ) (ts : List Token) → rest_in returned_at n ts ≡ (rest_in (field_at at_in (field_at (whole_in 1 MAX_SITE) (field_at at_in end_at))) n ts >>= λ q. Some ((Returned q.0.0 q.0.1.0 q.0.1.1.0), q.1))
unfolding returned_at
returned_steps n ts = rest_then (field_at at_in (field_at (whole_in 1 MAX_SITE) (field_at at_in end_at))) (λ p. Some (Returned p.0 p.1.0 p.1.1.0)) n ts

pub made_steps : (n : ℕ) (ts : List Token) → rest_in made_at n ts ≡ (rest_in (field_at at_in (field_at name_in end_at)) n ts >>= λ q. Some ((Made q.0.0 q.0.1.0), q.1))
unfolding made_at
made_steps n ts = rest_then (field_at at_in (field_at name_in end_at)) (λ p. Some (Made p.0 p.1.0)) n ts

pub taken_steps : (n : ℕ) (ts : List Token) → rest_in taken_at n ts ≡ (rest_in (field_at at_in (field_at ids_in end_at)) n ts >>= λ q. Some ((Taken q.0.0 q.0.1.0), q.1))
unfolding taken_at
taken_steps n ts = rest_then (field_at at_in (field_at ids_in end_at)) (λ p. Some (Taken p.0 p.1.0)) n ts

pub versions_steps : (n : ℕ) (ts : List Token) → rest_in versions_at n ts ≡ (rest_in (field_at at_in (field_at name_in (field_at kind_in (field_at versions_in end_at)))) n ts >>= λ q. Some ((Versions q.0.0 q.0.1.0 q.0.1.1.0 q.0.1.1.1.0), q.1))
unfolding versions_at
versions_steps n ts = rest_then (field_at at_in (field_at name_in (field_at kind_in (field_at versions_in end_at)))) (λ p. Some (Versions p.0 p.1.0 p.1.1.0 p.1.1.1.0)) n ts

pub objects_steps : (n : ℕ) (ts : List Token) → rest_in objects_at n ts ≡ (rest_in (field_at at_in (field_at (whole_in 0 MAX_FROM) (field_at at_in (field_at (list_in object_in) end_at)))) n ts >>= λ q. Some ((Objects q.0.0 q.0.1.0 q.0.1.1.0 q.0.1.1.1.0), q.1))
unfolding objects_at
objects_steps n ts = rest_then (field_at at_in (field_at (whole_in 0 MAX_FROM) (field_at at_in (field_at (list_in object_in) end_at)))) (λ p. Some (Objects p.0 p.1.0 p.1.1.0 p.1.1.1.0)) n ts

pub entries_steps : (n : ℕ) (ts : List Token) → rest_in entries_at n ts ≡ (rest_in (field_at at_in (field_at (whole_in 0 MAX_FROM) (field_at (list_in entry_of) end_at))) n ts >>= λ q. Some ((Entries q.0.0 q.0.1.0 q.0.1.1.0), q.1))
unfolding entries_at
entries_steps n ts = rest_then (field_at at_in (field_at (whole_in 0 MAX_FROM) (field_at (list_in entry_of) end_at))) (λ p. Some (Entries p.0 p.1.0 p.1.1.0)) n ts

pub left_steps : (n : ℕ) (ts : List Token) → rest_in left_at n ts ≡ (rest_in (field_at at_in end_at) n ts >>= λ q. Some ((Left q.0.0), q.1))
unfolding left_at
left_steps n ts = rest_then (field_at at_in end_at) (λ p. Some (Left p.0)) n ts

pub notes_steps : (n : ℕ) (ts : List Token) → rest_in notes_reply_at n ts ≡ (rest_in (field_at at_in (field_at notes_in end_at)) n ts >>= λ q. Some ((Notes q.0.0 q.0.1.0), q.1))
unfolding notes_reply_at
notes_steps n ts = rest_then (field_at at_in (field_at notes_in end_at)) (λ p. Some (Notes p.0 p.1.0)) n ts

pub renewed_steps : (n : ℕ) (ts : List Token) → rest_in renewed_at n ts ≡ (rest_in (field_at at_in (field_at room_in end_at)) n ts >>= λ q. Some ((Renewed q.0.0 q.0.1.0), q.1))
unfolding renewed_at
renewed_steps n ts = rest_then (field_at at_in (field_at room_in end_at)) (λ p. Some (Renewed p.0 p.1.0)) n ts

pub no_steps : (n : ℕ) (ts : List Token) → rest_in no_at n ts ≡ (rest_in (field_at at_in refusal_fields) n ts >>= λ q. Some ((No q.0.0 q.0.1), q.1))
unfolding no_at
no_steps n ts = rest_then (field_at at_in refusal_fields) (λ p. Some (No p.0 p.1)) n ts
