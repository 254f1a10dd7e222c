use Rattle.std.proofs.Common.{◌-◌, ◌<◌, refl, arith}
use Rattle.wire_reader.proofs.Tokens.{two_steps, field_steps, end_steps, failed}
use Rattle.wire_reader.proofs.Shown.{version_steps}
use Rattle.wire_reader.proofs.reply.VersionPart.read.Goals as goal

pub returns-in_err-open_list : goal.returns-in_err-open_list
returns-in_err-open_list c n h =
    let deep : 0 < n = omega arith in
    failed (λ x. x) c.from_residual.result _ _ _ _ c.from_residual.ensures.1 c.in_err-open_list.ensures (λ none. rw (version_steps n _, two_steps _ _ n _ deep, none) refl)

pub returns-in_err-id : goal.returns-in_err-id
returns-in_err-id c n h =
    let deep : 0 < n = omega arith in
    failed (λ x. x) c.from_residual-in_err-id.result _ _ _ _ c.from_residual-in_err-id.ensures.1 (c.in_err-id.ensures (n - 1) (omega arith))
    (λ none. rw (version_steps n _, two_steps _ _ n _ deep, c.in_ok-open_list.ensures, field_steps, none) refl)

pub returns-in_err-shown : goal.returns-in_err-shown
returns-in_err-shown c n h =
    let deep : 0 < n = omega arith in
    failed (λ x. x) c.from_residual-in_err-shown.result _ _ _ _ c.from_residual-in_err-shown.ensures.1 (c.in_err-shown.ensures (n - 1) (omega arith))
    (λ none. rw (version_steps n _, two_steps _ _ n _ deep, c.in_ok-open_list.ensures, field_steps, c.in_ok-id.ensures (n - 1) (omega arith), field_steps, none) refl)

pub returns-in_err-close_list : goal.returns-in_err-close_list
returns-in_err-close_list c n h =
    let deep : 0 < n = omega arith in
    failed (λ x. x) c.from_residual-in_err-close_list.result _ _ _ _ c.from_residual-in_err-close_list.ensures.1 c.in_err-close_list.ensures
    (λ none. rw (version_steps n _, two_steps _ _ n _ deep, c.in_ok-open_list.ensures, field_steps, c.in_ok-id.ensures (n - 1) (omega arith), field_steps, c.in_ok-shown.ensures (n - 1) (omega arith), end_steps, none) refl)

pub returns : goal.returns
returns c n h =
    let deep : 0 < n = omega arith in
    rw (version_steps n _, two_steps _ _ n _ deep, c.in_ok-open_list.ensures, field_steps, c.in_ok-id.ensures (n - 1) (omega arith), field_steps, c.in_ok-shown.ensures (n - 1) (omega arith), end_steps, c.in_ok-close_list.ensures) refl
