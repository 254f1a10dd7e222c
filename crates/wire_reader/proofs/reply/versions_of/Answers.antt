use Rattle.std.proofs.Common.{refl, arith}
use Rattle.wire_reader.proofs.ReplySteps.{versions_steps}
use Rattle.wire_reader.proofs.Tokens.{field_steps, end_steps, failed}
use Rattle.wire_reader.proofs.reply.versions_of.Goals as goal

pub returns-in_err-at : goal.returns-in_err-at
returns-in_err-at c n h =
    failed (λ x. x) c.from_residual.result _ _ _ _ c.from_residual.ensures.1 (c.in_err-at.ensures n)
    (λ none. rw (versions_steps, field_steps, none) refl)

pub returns-in_err-object : goal.returns-in_err-object
returns-in_err-object c n h =
    failed (λ x. x) c.from_residual-in_err-object.result _ _ _ _ c.from_residual-in_err-object.ensures.1 (c.in_err-object.ensures n (omega arith))
    (λ none. rw (versions_steps, field_steps, c.in_ok-at.ensures n, field_steps, none) refl)

pub returns-in_err-kind : goal.returns-in_err-kind
returns-in_err-kind c n h =
    failed (λ x. x) c.from_residual-in_err-kind.result _ _ _ _ c.from_residual-in_err-kind.ensures.1 (c.in_err-kind.ensures n)
    (λ none. rw (versions_steps, field_steps, c.in_ok-at.ensures n, field_steps, c.in_ok-object.ensures n (omega arith), field_steps, none) refl)

pub returns-in_err-versions : goal.returns-in_err-versions
returns-in_err-versions c n h =
    failed (λ x. x) c.from_residual-in_err-versions.result _ _ _ _ c.from_residual-in_err-versions.ensures.1 (c.in_err-versions.ensures n (omega arith))
    (λ none. rw (versions_steps, field_steps, c.in_ok-at.ensures n, field_steps, c.in_ok-object.ensures n (omega arith), field_steps, c.in_ok-kind.ensures n, field_steps, none) refl)

pub returns-in_err-close_list : goal.returns-in_err-close_list
returns-in_err-close_list c n h =
    failed (λ x. x) c.from_residual-in_err-close_list.result _ _ _ _ c.from_residual-in_err-close_list.ensures.1 c.in_err-close_list.ensures
    (λ none. rw (versions_steps, field_steps, c.in_ok-at.ensures n, field_steps, c.in_ok-object.ensures n (omega arith), field_steps, c.in_ok-kind.ensures n, field_steps, c.in_ok-versions.ensures n (omega arith), end_steps, none) refl)

pub returns : goal.returns
returns c n h = rw (versions_steps, field_steps, c.in_ok-at.ensures n, field_steps, c.in_ok-object.ensures n (omega arith), field_steps, c.in_ok-kind.ensures n, field_steps, c.in_ok-versions.ensures n (omega arith), end_steps, c.in_ok-close_list.ensures) refl
