use Rattle.std.proofs.Common.{◌-◌, ◌<◌, refl, arith}
use Rattle.wire_reader.specs.steps.Notes.{note_request_of}
use Rattle.wire_reader.proofs.Tokens.{message_steps, same_word, other_word, failed, rest_none}
use Rattle.wire_reader.proofs.note.NoteRequestPart.read.Goals as goal

pub returns-in_err-word : goal.returns-in_err-word
unfolding note_request_of
returns-in_err-word c n h =
    let deep : 0 < n = omega arith in
    failed (λ x. x) c.from_residual.result _ _ _ _ c.from_residual.ensures.1 (c.in_err-word.ensures (n - 1)) (λ none. rw (message_steps _ _ n _ deep, none) refl)

pub returns-in-note : goal.returns-in-note
unfolding note_request_of
returns-in-note c n h =
    let deep : 0 < n = omega arith in
    rw (message_steps _ _ n _ deep, c.in_ok-word.ensures (n - 1), same_word _ _ c.in-note.is) (c.set_of.ensures (n - 1))

pub returns-in-notes : goal.returns-in-notes
unfolding note_request_of
returns-in-notes c n h =
    let deep : 0 < n = omega arith in
    rw (message_steps _ _ n _ deep, c.in_ok-word.ensures (n - 1), other_word _ _ c.in-notes.not-note, same_word _ _ c.in-notes.is) (c.read_of.ensures (n - 1))

pub returns-in_default : goal.returns-in_default
unfolding note_request_of
returns-in_default c n h =
    let deep : 0 < n = omega arith in
    rw (message_steps _ _ n _ deep, c.in_ok-word.ensures (n - 1), other_word _ _ c.in_default.not-note, other_word _ _ c.in_default.not-notes) (rest_none _ (n - 1) _ (λ ds. refl))
