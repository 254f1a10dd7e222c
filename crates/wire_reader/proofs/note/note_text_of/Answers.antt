use Rattle.std.proofs.Common.{refl}
use Rattle.wire_reader.specs.steps.Notes.{note_text_in}
use Rattle.wire_reader.proofs.Tokens.{passing_steps, failed, passed}
use Rattle.wire_reader.proofs.note.note_text_of.Goals as goal

pub returns-in_err-text : goal.returns-in_err-text
unfolding note_text_in
returns-in_err-text c n = failed (λ x. x) c.from_residual.result _ _ _ _ c.from_residual.ensures.1 (c.in_err-text.ensures n) (λ none. rw (passing_steps, none) refl)

pub returns : goal.returns
unfolding note_text_in
returns c n = rw (passing_steps, c.in_ok-text.ensures n) (passed (λ x. x) c.note_text_with.result _ _ c.note_text_with.ensures)
