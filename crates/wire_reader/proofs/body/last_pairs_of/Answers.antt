use Rattle.std.proofs.Common.{refl, arith}
use Rattle.wire_reader.proofs.Tokens.{field_steps, end_steps, failed}
use Rattle.wire_reader.proofs.body.last_pairs_of.Goals as goal

pub returns-in_err-pairs : goal.returns-in_err-pairs
returns-in_err-pairs c n h =
    failed (λ pairs. (pairs, tt)) c.from_residual.result _ _ _ _ c.from_residual.ensures.1 (c.in_err-pairs.ensures n (omega arith))
    (λ none. rw (field_steps, none) refl)

pub returns-in_err-close_list : goal.returns-in_err-close_list
returns-in_err-close_list c n h =
    failed (λ pairs. (pairs, tt)) c.from_residual-in_err-close_list.result _ _ _ _ c.from_residual-in_err-close_list.ensures.1 c.in_err-close_list.ensures
    (λ none. rw (field_steps, c.in_ok-pairs.ensures n (omega arith), end_steps, none) refl)

pub returns : goal.returns
returns c n h = rw (field_steps, c.in_ok-pairs.ensures n (omega arith), end_steps, c.in_ok-close_list.ensures) refl
