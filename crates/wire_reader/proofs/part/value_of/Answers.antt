use Rattle.std.proofs.Common.{◌∙◌, ap}
use Rattle.wire_reader.specs.steps.Reading.{value_in}
use Rattle.wire_reader.specs.steps.Streams.{next_in}
use Rattle.wire_reader.proofs.Tokens.{value_here, no_value_here, passed}
use Rattle.wire_reader.proofs.part.value_of.Goals as goal

pub returns-in-Some : goal.returns-in-Some
returns-in-Some c n = rw (value_here n _ _ _ c.in-Some.ensures.value) (passed (λ x. x) c.value_with.result _ _ c.value_with.ensures)

pub returns-in-None : goal.returns-in-None
returns-in-None c n = ap (next_in value_in n) c.in-None.ensures.value.0 ∙ no_value_here n
