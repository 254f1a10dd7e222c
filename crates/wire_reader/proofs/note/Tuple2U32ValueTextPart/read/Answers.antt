use Rattle.std.proofs.Common.{◌-◌, ◌<◌, refl, arith}
use Rattle.wire_reader.proofs.Tokens.{two_steps, field_steps, end_steps, failed}
use Rattle.wire_reader.specs.steps.Notes.{note_in}
use Rattle.wire_reader.proofs.note.Tuple2U32ValueTextPart.read.Goals as goal

pub returns-in_err-open_list : goal.returns-in_err-open_list
unfolding note_in
returns-in_err-open_list c n h =
    let deep : 0 < n = omega arith in
    failed (λ x. x) c.from_residual.result _ _ _ _ c.from_residual.ensures.1 c.in_err-open_list.ensures (λ none. rw (two_steps _ _ n _ deep, none) refl)

pub returns-in_err-site : goal.returns-in_err-site
unfolding note_in
returns-in_err-site c n h =
    let deep : 0 < n = omega arith in
    failed (λ x. x) c.from_residual-in_err-site.result _ _ _ _ c.from_residual-in_err-site.ensures.1 (c.in_err-site.ensures (n - 1))
    (λ none. rw (two_steps _ _ n _ deep, c.in_ok-open_list.ensures, field_steps, none) refl)

pub returns-in_err-note : goal.returns-in_err-note
unfolding note_in
returns-in_err-note c n h =
    let deep : 0 < n = omega arith in
    failed (λ x. x) c.from_residual-in_err-note.result _ _ _ _ c.from_residual-in_err-note.ensures.1 (c.in_err-note.ensures (n - 1))
    (λ none. rw (two_steps _ _ n _ deep, c.in_ok-open_list.ensures, field_steps, c.in_ok-site.ensures (n - 1), field_steps, none) refl)

pub returns-in_err-close_list : goal.returns-in_err-close_list
unfolding note_in
returns-in_err-close_list c n h =
    let deep : 0 < n = omega arith in
    failed (λ x. x) c.from_residual-in_err-close_list.result _ _ _ _ c.from_residual-in_err-close_list.ensures.1 c.in_err-close_list.ensures
    (λ none. rw (two_steps _ _ n _ deep, c.in_ok-open_list.ensures, field_steps, c.in_ok-site.ensures (n - 1), field_steps, c.in_ok-note.ensures (n - 1), end_steps, none) refl)

pub returns : goal.returns
unfolding note_in
returns c n h =
    let deep : 0 < n = omega arith in
    rw (two_steps _ _ n _ deep, c.in_ok-open_list.ensures, field_steps, c.in_ok-site.ensures (n - 1), field_steps, c.in_ok-note.ensures (n - 1), end_steps, c.in_ok-close_list.ensures) refl
