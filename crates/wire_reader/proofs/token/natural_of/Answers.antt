use Rattle.std.proofs.Common.{Some, None, ap, ◌∙◌}
use Rattle.serde_json.specs.Find.{as_u64}
use Rattle.wire_reader.specs.steps.Reading.{natural_in}
use Rattle.wire_reader.specs.steps.Streams.{next_in}
use Rattle.wire_reader.proofs.Tokens.{number_here, next_number_none}
use Rattle.wire_reader.proofs.token.natural_of.Goals as goal

pub returns-in_default : goal.returns-in_default
unfolding natural_in
returns-in_default c n = ap (next_in natural_in n) c.in_default.ensures.value.0 ∙ next_number_none as_u64 n

pub returns-in_default-numeral_of : goal.returns-in_default-numeral_of
unfolding natural_in
returns-in_default-numeral_of c n = number_here as_u64 n _ _ _ None c.in-Some.ensures.value (rw (← c.in_default-numeral_of.ensures))

pub returns-in_default-natural_in_text : goal.returns-in_default-natural_in_text
unfolding natural_in
returns-in_default-natural_in_text c n =
    number_here as_u64 n _ _ _ None c.in-Some.ensures.value (rw (← c.in-Some-numeral_of.ensures) c.in_default-natural_in_text.ensures)

pub returns : goal.returns
unfolding natural_in
returns c n =
    number_here as_u64 n _ _ _ (Some c.in-Some-natural_in_text.number) c.in-Some.ensures.value (rw (← c.in-Some-numeral_of.ensures) c.in-Some-natural_in_text.ensures)
