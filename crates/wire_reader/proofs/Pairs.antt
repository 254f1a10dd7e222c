-- The pairs of a put, of which there is at least one.
use Rattle.std.proofs.Common.{◌≡◌, ℕ, List, Option, Some, None, cond, refl}
use Rattle.json.specs.Token.{Token}
use Rattle.json.specs.Json.{after_end_array}
use Rattle.rules.specs.AttrLists.{are_pairs, pairs_fault}
use Rattle.wire_reader.specs.steps.Reading.{◌>>=◌, all_in, attr_in}
use Rattle.wire_reader.specs.steps.Streams.{next_in, rest_in}
use Rattle.wire_reader.proofs.Tokens.{all_over, all_bad, leaving}

no_pairs_by : (n : ℕ) (ts : List Token) (o : Option (List Token)) → after_end_array ts ≡ o → next_in attr_in n ts ≡ None → (rest_in (all_in attr_in) n ts >>= λ q. leaving q.1 (cond (are_pairs q.0) (Some q.0) None)) ≡ None
unfolding pairs_fault
no_pairs_by n ts None going none = rw (all_bad attr_in n ts going none) refl
no_pairs_by n ts (Some r) over none = rw (all_over attr_in n ts r over) refl

-- where no first pair is read, no pairs are
pub no_pairs : (n : ℕ) (ts : List Token) → next_in attr_in n ts ≡ None → (rest_in (all_in attr_in) n ts >>= λ q. leaving q.1 (cond (are_pairs q.0) (Some q.0) None)) ≡ None
no_pairs n ts none = no_pairs_by n ts (after_end_array ts) refl none
