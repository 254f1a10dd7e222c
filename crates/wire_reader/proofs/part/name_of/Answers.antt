use Rattle.std.proofs.Common.{refl}
use Rattle.wire_reader.specs.steps.Reading.{name_in}
use Rattle.wire_reader.proofs.Tokens.{passing_steps, failed, passed}
use Rattle.wire_reader.proofs.part.name_of.Goals as goal

pub returns-in_err-pair : goal.returns-in_err-pair
unfolding name_in
returns-in_err-pair c n h = failed (λ x. x) c.from_residual.result _ _ _ _ c.from_residual.ensures.1 (c.in_err-pair.ensures n h) (λ none. rw (passing_steps, none) refl)

pub returns : goal.returns
unfolding name_in
returns c n h = rw (passing_steps, c.in_ok-pair.ensures n h) (passed (λ x. x) c.name_with.result _ _ c.name_with.ensures)
