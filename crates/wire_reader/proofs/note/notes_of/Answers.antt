use Rattle.std.proofs.Common.{refl, arith}
use Rattle.wire_reader.specs.steps.Notes.{notes_in}
use Rattle.wire_reader.proofs.Maps.{map_same}
use Rattle.wire_reader.proofs.Tokens.{passing_steps, failed, passed}
use Rattle.wire_reader.proofs.note.notes_of.Goals as goal

pub returns-in_err-notes : goal.returns-in_err-notes
unfolding notes_in
returns-in_err-notes c n h = failed (λ x. x) c.from_residual.result _ _ _ _ c.from_residual.ensures.1 (c.in_err-notes.ensures n (omega arith)) (λ none. rw (passing_steps, none) refl)

pub returns : goal.returns
unfolding notes_in
returns c n h = rw (passing_steps, c.in_ok-notes.ensures n (omega arith), map_same) (passed (λ x. x) c.notes_with.result _ _ c.notes_with.ensures)
