use Rattle.std.proofs.Common.{refl}
use Rattle.wire_reader.proofs.NoteSteps.{read_steps}
use Rattle.wire_reader.proofs.Tokens.{end_steps, failed}
use Rattle.wire_reader.proofs.note.read_of.Goals as goal

pub returns-in_err-close_list : goal.returns-in_err-close_list
returns-in_err-close_list c n =
    failed (λ x. x) c.from_residual.result _ _ _ _ c.from_residual.ensures.1 c.in_err-close_list.ensures
    (λ none. rw (read_steps, end_steps, none) refl)

pub returns : goal.returns
returns c n = rw (read_steps, end_steps, c.in_ok-close_list.ensures) refl
