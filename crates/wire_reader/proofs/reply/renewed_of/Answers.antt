use Rattle.std.proofs.Common.{refl}
use Rattle.wire_reader.proofs.ReplySteps.{renewed_steps}
use Rattle.wire_reader.proofs.Tokens.{field_steps, end_steps, failed}
use Rattle.wire_reader.proofs.reply.renewed_of.Goals as goal

pub returns-in_err-at : goal.returns-in_err-at
returns-in_err-at c n =
    failed (λ x. x) c.from_residual.result _ _ _ _ c.from_residual.ensures.1 (c.in_err-at.ensures n)
    (λ none. rw (renewed_steps, field_steps, none) refl)

pub returns-in_err-room : goal.returns-in_err-room
returns-in_err-room c n =
    failed (λ x. x) c.from_residual-in_err-room.result _ _ _ _ c.from_residual-in_err-room.ensures.1 (c.in_err-room.ensures n)
    (λ none. rw (renewed_steps, field_steps, c.in_ok-at.ensures n, field_steps, none) refl)

pub returns-in_err-close_list : goal.returns-in_err-close_list
returns-in_err-close_list c n =
    failed (λ x. x) c.from_residual-in_err-close_list.result _ _ _ _ c.from_residual-in_err-close_list.ensures.1 c.in_err-close_list.ensures
    (λ none. rw (renewed_steps, field_steps, c.in_ok-at.ensures n, field_steps, c.in_ok-room.ensures n, end_steps, none) refl)

pub returns : goal.returns
returns c n = rw (renewed_steps, field_steps, c.in_ok-at.ensures n, field_steps, c.in_ok-room.ensures n, end_steps, c.in_ok-close_list.ensures) refl
