-- How what an operation does is read, step by step.
use Rattle.std.proofs.Common.{◌≡◌, ℕ, List, [], ◌∷◌, Some}
use Rattle.json.specs.Token.{Token}
use Rattle.rules.specs.declared.history.Body.TheVariants.{New, Put, DropVersion}
use Rattle.wire_reader.specs.steps.Reading.{end_at, field_at, kind_in, attrs_in, pairs_in}
use Rattle.wire_reader.specs.steps.Reading.{name_in, id_in, key_in, value_in}
use Rattle.wire_reader.specs.steps.Reading.{◌>>=◌}
use Rattle.wire_reader.specs.steps.Bodies.{new_at, put_at, drop_at, one_pair_at}
use Rattle.wire_reader.specs.steps.Streams.{rest_in}
use Rattle.wire_reader.proofs.Tokens.{rest_then}

pub new_steps : (n : ℕ) (ts : List Token) → rest_in new_at n ts ≡ (rest_in (field_at kind_in (field_at attrs_in end_at)) n ts >>= λ q. Some ((New q.0.0 q.0.1.0), q.1))
unfolding new_at
new_steps n ts = rest_then (field_at kind_in (field_at attrs_in end_at)) (λ p. Some (New p.0 p.1.0)) n ts

pub put_steps : (n : ℕ) (ts : List Token) → rest_in put_at n ts ≡ (rest_in (field_at name_in (field_at id_in (field_at pairs_in end_at))) n ts >>= λ q. Some ((Put q.0.0 q.0.1.0 q.0.1.1.0), q.1))
unfolding put_at
put_steps n ts = rest_then (field_at name_in (field_at id_in (field_at pairs_in end_at))) (λ p. Some (Put p.0 p.1.0 p.1.1.0)) n ts

pub drop_steps : (n : ℕ) (ts : List Token) → rest_in drop_at n ts ≡ (rest_in (field_at name_in (field_at id_in end_at)) n ts >>= λ q. Some ((DropVersion q.0.0 q.0.1.0), q.1))
unfolding drop_at
drop_steps n ts = rest_then (field_at name_in (field_at id_in end_at)) (λ p. Some (DropVersion p.0 p.1.0)) n ts

pub set_steps : (n : ℕ) (ts : List Token) → rest_in one_pair_at n ts ≡ (rest_in (field_at name_in (field_at id_in (field_at key_in (field_at value_in end_at)))) n ts >>= λ q. Some ((Put q.0.0 q.0.1.0 ((q.0.1.1.0, q.0.1.1.1.0) ∷ [])), q.1))
unfolding one_pair_at
set_steps n ts = rest_then (field_at name_in (field_at id_in (field_at key_in (field_at value_in end_at)))) (λ p. Some (Put p.0 p.1.0 ((p.1.1.0, p.1.1.1.0) ∷ []))) n ts
