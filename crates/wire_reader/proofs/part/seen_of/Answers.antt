use Rattle.std.proofs.Common.{refl, arith}
use Rattle.wire_reader.specs.steps.Reading.{seen_in}
use Rattle.wire_reader.proofs.Tokens.{passing_steps, failed, passed}
use Rattle.wire_reader.proofs.part.seen_of.Goals as goal

pub returns-in_err-pairs : goal.returns-in_err-pairs
unfolding seen_in
returns-in_err-pairs c n h = failed (λ x. x) c.from_residual.result _ _ _ _ c.from_residual.ensures.1 (c.in_err-pairs.ensures n (omega arith)) (λ none. rw (passing_steps, none) refl)

pub returns : goal.returns
unfolding seen_in
returns c n h = rw (passing_steps, c.in_ok-pairs.ensures n (omega arith)) (passed (λ x. x) c.seen_with.result _ _ c.seen_with.ensures)
