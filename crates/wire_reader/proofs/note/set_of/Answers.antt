use Rattle.std.proofs.Common.{refl}
use Rattle.wire_reader.proofs.NoteSteps.{set_steps}
use Rattle.wire_reader.proofs.Tokens.{field_steps, end_steps, failed}
use Rattle.wire_reader.proofs.note.set_of.Goals as goal

pub returns-in_err-text : goal.returns-in_err-text
returns-in_err-text c n =
    failed (λ x. x) c.from_residual.result _ _ _ _ c.from_residual.ensures.1 (c.in_err-text.ensures n)
    (λ none. rw (set_steps, field_steps, none) refl)

pub returns-in_err-close_list : goal.returns-in_err-close_list
returns-in_err-close_list c n =
    failed (λ x. x) c.from_residual-in_err-close_list.result _ _ _ _ c.from_residual-in_err-close_list.ensures.1 c.in_err-close_list.ensures
    (λ none. rw (set_steps, field_steps, c.in_ok-text.ensures n, end_steps, none) refl)

pub returns : goal.returns
returns c n = rw (set_steps, field_steps, c.in_ok-text.ensures n, end_steps, c.in_ok-close_list.ensures) refl
