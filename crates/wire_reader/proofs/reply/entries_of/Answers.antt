use Rattle.std.proofs.Common.{refl, arith}
use Rattle.wire_reader.proofs.ReplySteps.{entries_steps}
use Rattle.wire_reader.proofs.Tokens.{field_steps, end_steps, failed}
use Rattle.wire_reader.proofs.reply.entries_of.Goals as goal

pub returns-in_err-at : goal.returns-in_err-at
returns-in_err-at c n h =
    failed (λ x. x) c.from_residual.result _ _ _ _ c.from_residual.ensures.1 (c.in_err-at.ensures n)
    (λ none. rw (entries_steps, field_steps, none) refl)

pub returns-in_err-from : goal.returns-in_err-from
returns-in_err-from c n h =
    failed (λ x. x) c.from_residual-in_err-from.result _ _ _ _ c.from_residual-in_err-from.ensures.1 (c.in_err-from.ensures n)
    (λ none. rw (entries_steps, field_steps, c.in_ok-at.ensures n, field_steps, none) refl)

pub returns-in_err-entries : goal.returns-in_err-entries
returns-in_err-entries c n h =
    failed (λ x. x) c.from_residual-in_err-entries.result _ _ _ _ c.from_residual-in_err-entries.ensures.1 (c.in_err-entries.ensures n (omega arith))
    (λ none. rw (entries_steps, field_steps, c.in_ok-at.ensures n, field_steps, c.in_ok-from.ensures n, field_steps, none) refl)

pub returns-in_err-close_list : goal.returns-in_err-close_list
returns-in_err-close_list c n h =
    failed (λ x. x) c.from_residual-in_err-close_list.result _ _ _ _ c.from_residual-in_err-close_list.ensures.1 c.in_err-close_list.ensures
    (λ none. rw (entries_steps, field_steps, c.in_ok-at.ensures n, field_steps, c.in_ok-from.ensures n, field_steps, c.in_ok-entries.ensures n (omega arith), end_steps, none) refl)

pub returns : goal.returns
returns c n h = rw (entries_steps, field_steps, c.in_ok-at.ensures n, field_steps, c.in_ok-from.ensures n, field_steps, c.in_ok-entries.ensures n (omega arith), end_steps, c.in_ok-close_list.ensures, c.from_vec.ensures) refl
