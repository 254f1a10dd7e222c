use Rattle.std.proofs.Common.{refl}
use Rattle.wire_reader.proofs.EntrySteps.{next_steps}
use Rattle.wire_reader.proofs.Tokens.{field_steps, end_steps, failed}
use Rattle.wire_reader.proofs.entry.next_of.Goals as goal

pub returns-in_err-count : goal.returns-in_err-count
returns-in_err-count c n =
    failed (λ x. x) c.from_residual.result _ _ _ _ c.from_residual.ensures.1 (c.in_err-count.ensures n)
    (λ none. rw (next_steps, field_steps, none) refl)

pub returns-in_err-close_list : goal.returns-in_err-close_list
returns-in_err-close_list c n =
    failed (λ x. x) c.from_residual-in_err-close_list.result _ _ _ _ c.from_residual-in_err-close_list.ensures.1 c.in_err-close_list.ensures
    (λ none. rw (next_steps, field_steps, c.in_ok-count.ensures n, end_steps, none) refl)

pub returns : goal.returns
returns c n = rw (next_steps, field_steps, c.in_ok-count.ensures n, end_steps, c.in_ok-close_list.ensures) refl
