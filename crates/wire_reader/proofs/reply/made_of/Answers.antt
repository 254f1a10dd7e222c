use Rattle.std.proofs.Common.{refl, arith}
use Rattle.wire_reader.proofs.ReplySteps.{made_steps}
use Rattle.wire_reader.proofs.Tokens.{field_steps, end_steps, failed}
use Rattle.wire_reader.proofs.reply.made_of.Goals as goal

pub returns-in_err-at : goal.returns-in_err-at
returns-in_err-at c n h =
    failed (λ x. x) c.from_residual.result _ _ _ _ c.from_residual.ensures.1 (c.in_err-at.ensures n)
    (λ none. rw (made_steps, field_steps, none) refl)

pub returns-in_err-name : goal.returns-in_err-name
returns-in_err-name c n h =
    failed (λ x. x) c.from_residual-in_err-name.result _ _ _ _ c.from_residual-in_err-name.ensures.1 (c.in_err-name.ensures n (omega arith))
    (λ none. rw (made_steps, field_steps, c.in_ok-at.ensures n, field_steps, none) refl)

pub returns-in_err-close_list : goal.returns-in_err-close_list
returns-in_err-close_list c n h =
    failed (λ x. x) c.from_residual-in_err-close_list.result _ _ _ _ c.from_residual-in_err-close_list.ensures.1 c.in_err-close_list.ensures
    (λ none. rw (made_steps, field_steps, c.in_ok-at.ensures n, field_steps, c.in_ok-name.ensures n (omega arith), end_steps, none) refl)

pub returns : goal.returns
returns c n h = rw (made_steps, field_steps, c.in_ok-at.ensures n, field_steps, c.in_ok-name.ensures n (omega arith), end_steps, c.in_ok-close_list.ensures) refl
