use Rattle.std.proofs.Common.{refl, arith}
use Rattle.wire_reader.proofs.RequestSteps.{show_steps}
use Rattle.wire_reader.proofs.Tokens.{field_steps, end_steps, failed}
use Rattle.wire_reader.proofs.request.show_of.Goals as goal

pub returns-in_err-object : goal.returns-in_err-object
returns-in_err-object c n h =
    failed (λ x. x) c.from_residual.result _ _ _ _ c.from_residual.ensures.1 (c.in_err-object.ensures n (omega arith))
    (λ none. rw (show_steps, field_steps, none) refl)

pub returns-in_err-close_list : goal.returns-in_err-close_list
returns-in_err-close_list c n h =
    failed (λ x. x) c.from_residual-in_err-close_list.result _ _ _ _ c.from_residual-in_err-close_list.ensures.1 c.in_err-close_list.ensures
    (λ none. rw (show_steps, field_steps, c.in_ok-object.ensures n (omega arith), end_steps, none) refl)

pub returns : goal.returns
returns c n h = rw (show_steps, field_steps, c.in_ok-object.ensures n (omega arith), end_steps, c.in_ok-close_list.ensures) refl
