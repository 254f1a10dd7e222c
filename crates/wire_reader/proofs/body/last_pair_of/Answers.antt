use Rattle.std.proofs.Common.{refl}
use Rattle.wire_reader.proofs.Tokens.{field_steps, end_steps, failed}
use Rattle.wire_reader.proofs.body.last_pair_of.Goals as goal

pub returns-in_err-key : goal.returns-in_err-key
returns-in_err-key c n =
    failed (λ pair. (pair.0, (pair.1, tt))) c.from_residual.result _ _ _ _ c.from_residual.ensures.1 (c.in_err-key.ensures n)
    (λ none. rw (field_steps, none) refl)

pub returns-in_err-value : goal.returns-in_err-value
returns-in_err-value c n =
    failed (λ pair. (pair.0, (pair.1, tt))) c.from_residual-in_err-value.result _ _ _ _ c.from_residual-in_err-value.ensures.1 (c.in_err-value.ensures n)
    (λ none. rw (field_steps, c.in_ok-key.ensures n, field_steps, none) refl)

pub returns-in_err-close_list : goal.returns-in_err-close_list
returns-in_err-close_list c n =
    failed (λ pair. (pair.0, (pair.1, tt))) c.from_residual-in_err-close_list.result _ _ _ _ c.from_residual-in_err-close_list.ensures.1 c.in_err-close_list.ensures
    (λ none. rw (field_steps, c.in_ok-key.ensures n, field_steps, c.in_ok-value.ensures n, end_steps, none) refl)

pub returns : goal.returns
returns c n = rw (field_steps, c.in_ok-key.ensures n, field_steps, c.in_ok-value.ensures n, end_steps, c.in_ok-close_list.ensures) refl
