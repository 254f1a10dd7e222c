use Rattle.std.proofs.Common.{◌-◌, ◌<◌, refl, arith}
use Rattle.wire_reader.proofs.Tokens.{two_steps, field_steps, end_steps, failed}
use Rattle.wire_reader.specs.steps.Replies.{object_in}
use Rattle.wire_reader.proofs.reply.Tuple2OpNameKindPart.read.Goals as goal

pub returns-in_err-open_list : goal.returns-in_err-open_list
unfolding object_in
returns-in_err-open_list c n h =
    let deep : 0 < n = omega arith in
    failed (λ x. x) c.from_residual.result _ _ _ _ c.from_residual.ensures.1 c.in_err-open_list.ensures (λ none. rw (two_steps _ _ n _ deep, none) refl)

pub returns-in_err-name : goal.returns-in_err-name
unfolding object_in
returns-in_err-name c n h =
    let deep : 0 < n = omega arith in
    failed (λ x. x) c.from_residual-in_err-name.result _ _ _ _ c.from_residual-in_err-name.ensures.1 (c.in_err-name.ensures (n - 1) (omega arith))
    (λ none. rw (two_steps _ _ n _ deep, c.in_ok-open_list.ensures, field_steps, none) refl)

pub returns-in_err-kind : goal.returns-in_err-kind
unfolding object_in
returns-in_err-kind c n h =
    let deep : 0 < n = omega arith in
    failed (λ x. x) c.from_residual-in_err-kind.result _ _ _ _ c.from_residual-in_err-kind.ensures.1 (c.in_err-kind.ensures (n - 1))
    (λ none. rw (two_steps _ _ n _ deep, c.in_ok-open_list.ensures, field_steps, c.in_ok-name.ensures (n - 1) (omega arith), field_steps, none) refl)

pub returns-in_err-close_list : goal.returns-in_err-close_list
unfolding object_in
returns-in_err-close_list c n h =
    let deep : 0 < n = omega arith in
    failed (λ x. x) c.from_residual-in_err-close_list.result _ _ _ _ c.from_residual-in_err-close_list.ensures.1 c.in_err-close_list.ensures
    (λ none. rw (two_steps _ _ n _ deep, c.in_ok-open_list.ensures, field_steps, c.in_ok-name.ensures (n - 1) (omega arith), field_steps, c.in_ok-kind.ensures (n - 1), end_steps, none) refl)

pub returns : goal.returns
unfolding object_in
returns c n h =
    let deep : 0 < n = omega arith in
    rw (two_steps _ _ n _ deep, c.in_ok-open_list.ensures, field_steps, c.in_ok-name.ensures (n - 1) (omega arith), field_steps, c.in_ok-kind.ensures (n - 1), end_steps, c.in_ok-close_list.ensures) refl
