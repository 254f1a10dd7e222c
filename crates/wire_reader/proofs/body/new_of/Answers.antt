use Rattle.std.proofs.Common.{refl, arith}
use Rattle.wire_reader.proofs.BodySteps.{new_steps}
use Rattle.wire_reader.proofs.Tokens.{field_steps, end_steps, failed}
use Rattle.wire_reader.proofs.body.new_of.Goals as goal

pub returns-in_err-kind : goal.returns-in_err-kind
returns-in_err-kind c n h =
    failed (λ x. x) c.from_residual.result _ _ _ _ c.from_residual.ensures.1 (c.in_err-kind.ensures n)
    (λ none. rw (new_steps, field_steps, none) refl)

pub returns-in_err-attrs : goal.returns-in_err-attrs
returns-in_err-attrs c n h =
    failed (λ x. x) c.from_residual-in_err-attrs.result _ _ _ _ c.from_residual-in_err-attrs.ensures.1 (c.in_err-attrs.ensures n (omega arith))
    (λ none. rw (new_steps, field_steps, c.in_ok-kind.ensures n, field_steps, none) refl)

pub returns-in_err-close_list : goal.returns-in_err-close_list
returns-in_err-close_list c n h =
    failed (λ x. x) c.from_residual-in_err-close_list.result _ _ _ _ c.from_residual-in_err-close_list.ensures.1 c.in_err-close_list.ensures
    (λ none. rw (new_steps, field_steps, c.in_ok-kind.ensures n, field_steps, c.in_ok-attrs.ensures n (omega arith), end_steps, none) refl)

pub returns : goal.returns
returns c n h = rw (new_steps, field_steps, c.in_ok-kind.ensures n, field_steps, c.in_ok-attrs.ensures n (omega arith), end_steps, c.in_ok-close_list.ensures) refl
