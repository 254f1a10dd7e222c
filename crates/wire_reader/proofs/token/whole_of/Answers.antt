use Rattle.std.proofs.Common.{refl}
use Rattle.wire_reader.specs.steps.Reading.{whole_in}
use Rattle.wire_reader.proofs.Tokens.{passing_steps, failed, passed}
use Rattle.wire_reader.proofs.token.whole_of.Goals as goal

pub returns-in_err-number : goal.returns-in_err-number
unfolding whole_in
returns-in_err-number c n = failed (λ x. x) c.from_residual.result _ _ _ _ c.from_residual.ensures.1 (c.in_err-number.ensures n) (λ none. rw (passing_steps, none) refl)

pub returns : goal.returns
unfolding whole_in
returns c n = rw (passing_steps, c.in_ok-number.ensures n) (passed (λ x. x) c.whole_with.result _ _ c.whole_with.ensures)
