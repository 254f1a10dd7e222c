use Rattle.std.proofs.Common.{refl, arith}
use Rattle.wire_reader.proofs.RequestSteps.{change_steps}
use Rattle.wire_reader.proofs.Tokens.{failed}
use Rattle.wire_reader.proofs.request.change_of.Goals as goal

pub returns-in_err-seq : goal.returns-in_err-seq
returns-in_err-seq c n h = failed (λ x. x) c.from_residual.result _ _ _ _ c.from_residual.ensures.1 (c.in_err-seq.ensures n h (omega arith)) (λ none. rw (change_steps, none) refl)

pub returns : goal.returns
returns c n h = rw (change_steps, c.in_ok-seq.ensures n h (omega arith)) refl
