use Rattle.std.proofs.Common.{refl}
use Rattle.wire_reader.proofs.RequestSteps.{back_steps}
use Rattle.wire_reader.proofs.Tokens.{field_steps, end_steps, failed}
use Rattle.wire_reader.proofs.request.back_of.Goals as goal

pub returns-in_err-room : goal.returns-in_err-room
returns-in_err-room c n =
    failed (λ x. x) c.from_residual.result _ _ _ _ c.from_residual.ensures.1 (c.in_err-room.ensures n)
    (λ none. rw (back_steps, field_steps, none) refl)

pub returns-in_err-site : goal.returns-in_err-site
returns-in_err-site c n =
    failed (λ x. x) c.from_residual-in_err-site.result _ _ _ _ c.from_residual-in_err-site.ensures.1 (c.in_err-site.ensures n)
    (λ none. rw (back_steps, field_steps, c.in_ok-room.ensures n, field_steps, none) refl)

pub returns-in_err-close_list : goal.returns-in_err-close_list
returns-in_err-close_list c n =
    failed (λ x. x) c.from_residual-in_err-close_list.result _ _ _ _ c.from_residual-in_err-close_list.ensures.1 c.in_err-close_list.ensures
    (λ none. rw (back_steps, field_steps, c.in_ok-room.ensures n, field_steps, c.in_ok-site.ensures n, end_steps, none) refl)

pub returns : goal.returns
returns c n = rw (back_steps, field_steps, c.in_ok-room.ensures n, field_steps, c.in_ok-site.ensures n, end_steps, c.in_ok-close_list.ensures) refl
