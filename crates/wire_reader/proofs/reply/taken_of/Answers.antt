use Rattle.std.proofs.Common.{refl, arith}
use Rattle.wire_reader.proofs.ReplySteps.{taken_steps}
use Rattle.wire_reader.proofs.Tokens.{field_steps, end_steps, failed}
use Rattle.wire_reader.proofs.reply.taken_of.Goals as goal

pub returns-in_err-at : goal.returns-in_err-at
returns-in_err-at c n h =
    failed (λ x. x) c.from_residual.result _ _ _ _ c.from_residual.ensures.1 (c.in_err-at.ensures n)
    (λ none. rw (taken_steps, field_steps, none) refl)

pub returns-in_err-ids : goal.returns-in_err-ids
returns-in_err-ids c n h =
    failed (λ x. x) c.from_residual-in_err-ids.result _ _ _ _ c.from_residual-in_err-ids.ensures.1 (c.in_err-ids.ensures n (omega arith))
    (λ none. rw (taken_steps, field_steps, c.in_ok-at.ensures n, field_steps, none) refl)

pub returns-in_err-close_list : goal.returns-in_err-close_list
returns-in_err-close_list c n h =
    failed (λ x. x) c.from_residual-in_err-close_list.result _ _ _ _ c.from_residual-in_err-close_list.ensures.1 c.in_err-close_list.ensures
    (λ none. rw (taken_steps, field_steps, c.in_ok-at.ensures n, field_steps, c.in_ok-ids.ensures n (omega arith), end_steps, none) refl)

pub returns : goal.returns
returns c n h = rw (taken_steps, field_steps, c.in_ok-at.ensures n, field_steps, c.in_ok-ids.ensures n (omega arith), end_steps, c.in_ok-close_list.ensures) refl
