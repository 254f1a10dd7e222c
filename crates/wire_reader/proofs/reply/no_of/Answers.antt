use Rattle.std.proofs.Common.{refl}
use Rattle.wire_reader.proofs.ReplySteps.{no_steps}
use Rattle.wire_reader.proofs.Tokens.{field_steps, failed}
use Rattle.wire_reader.proofs.reply.no_of.Goals as goal

pub returns-in_err-at : goal.returns-in_err-at
returns-in_err-at c n = failed (λ x. x) c.from_residual.result _ _ _ _ c.from_residual.ensures.1 (c.in_err-at.ensures n) (λ none. rw (no_steps, field_steps, none) refl)

pub returns-in_err-refusal : goal.returns-in_err-refusal
returns-in_err-refusal c n =
    failed (λ x. x) c.from_residual-in_err-refusal.result _ _ _ _ c.from_residual-in_err-refusal.ensures.1 (c.in_err-refusal.ensures n)
    (λ none. rw (no_steps, field_steps, c.in_ok-at.ensures n, none) refl)

pub returns : goal.returns
returns c n = rw (no_steps, field_steps, c.in_ok-at.ensures n, c.in_ok-refusal.ensures n) refl
