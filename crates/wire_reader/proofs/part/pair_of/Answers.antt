use Rattle.std.proofs.Common.{◌-◌, ◌<◌, refl, arith}
use Rattle.wire_reader.proofs.Tokens.{two_steps, field_steps, end_steps, failed}
use Rattle.wire_reader.specs.steps.Reading.{pair_in}
use Rattle.wire_reader.proofs.part.pair_of.Goals as goal

pub returns-in_err-open_list : goal.returns-in_err-open_list
unfolding pair_in
returns-in_err-open_list c n h =
    let deep : 0 < n = omega arith in
    failed (λ x. x) c.from_residual.result _ _ _ _ c.from_residual.ensures.1 c.in_err-open_list.ensures (λ none. rw (two_steps _ _ n _ deep, none) refl)

pub returns-in_err-first : goal.returns-in_err-first
unfolding pair_in
returns-in_err-first c n h =
    let deep : 0 < n = omega arith in
    failed (λ x. x) c.from_residual-in_err-first.result _ _ _ _ c.from_residual-in_err-first.ensures.1 (c.in_err-first.ensures (n - 1))
    (λ none. rw (two_steps _ _ n _ deep, c.in_ok-open_list.ensures, field_steps, none) refl)

pub returns-in_err-second : goal.returns-in_err-second
unfolding pair_in
returns-in_err-second c n h =
    let deep : 0 < n = omega arith in
    failed (λ x. x) c.from_residual-in_err-second.result _ _ _ _ c.from_residual-in_err-second.ensures.1 (c.in_err-second.ensures (n - 1))
    (λ none. rw (two_steps _ _ n _ deep, c.in_ok-open_list.ensures, field_steps, c.in_ok-first.ensures (n - 1), field_steps, none) refl)

pub returns-in_err-close_list : goal.returns-in_err-close_list
unfolding pair_in
returns-in_err-close_list c n h =
    let deep : 0 < n = omega arith in
    failed (λ x. x) c.from_residual-in_err-close_list.result _ _ _ _ c.from_residual-in_err-close_list.ensures.1 c.in_err-close_list.ensures
    (λ none. rw (two_steps _ _ n _ deep, c.in_ok-open_list.ensures, field_steps, c.in_ok-first.ensures (n - 1), field_steps, c.in_ok-second.ensures (n - 1), end_steps, none) refl)

pub returns : goal.returns
unfolding pair_in
returns c n h =
    let deep : 0 < n = omega arith in
    rw (two_steps _ _ n _ deep, c.in_ok-open_list.ensures, field_steps, c.in_ok-first.ensures (n - 1), field_steps, c.in_ok-second.ensures (n - 1), end_steps, c.in_ok-close_list.ensures) refl
