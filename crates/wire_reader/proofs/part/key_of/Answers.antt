use Rattle.std.proofs.Common.{refl}
use Rattle.wire_reader.specs.steps.Reading.{key_in}
use Rattle.wire_reader.proofs.Tokens.{passing_steps, failed, passed}
use Rattle.wire_reader.proofs.part.key_of.Goals as goal

pub returns-in_err-text : goal.returns-in_err-text
unfolding key_in
returns-in_err-text c n = failed (λ x. x) c.from_residual.result _ _ _ _ c.from_residual.ensures.1 (c.in_err-text.ensures n) (λ none. rw (passing_steps, none) refl)

pub returns : goal.returns
unfolding key_in
returns c n = rw (passing_steps, c.in_ok-text.ensures n) (passed (λ x. x) c.key_with.result _ _ c.key_with.ensures)
