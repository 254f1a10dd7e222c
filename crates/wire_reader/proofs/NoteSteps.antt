-- How what follows the word of a request about notes is read, step by step.
use Rattle.std.proofs.Common.{◌≡◌, ℕ, List, Some}
use Rattle.json.specs.Token.{Token}
use Rattle.wire.specs.declared.note.NoteRequest.TheVariants.{Set, Read}
use Rattle.wire_reader.specs.steps.Reading.{◌>>=◌, end_at, field_at}
use Rattle.wire_reader.specs.steps.Notes.{note_text_in, set_at, read_at}
use Rattle.wire_reader.specs.steps.Streams.{rest_in}
use Rattle.wire_reader.proofs.Tokens.{rest_then}

pub set_steps : (n : ℕ) (ts : List Token) → rest_in set_at n ts ≡ (rest_in (field_at note_text_in end_at) n ts >>= λ q. Some ((Set q.0.0), q.1))
unfolding set_at
set_steps n ts = rest_then (field_at note_text_in end_at) (λ p. Some (Set p.0)) n ts

pub read_steps : (n : ℕ) (ts : List Token) → rest_in read_at n ts ≡ (rest_in (end_at) n ts >>= λ q. Some (Read, q.1))
unfolding read_at
read_steps n ts = rest_then (end_at) (λ _. Some Read) n ts
