use Rattle.wire_reader.proofs.ByForm.{given_value, given_none, given_ok, given_bad}
use Rattle.wire_reader.proofs.NoteTexts.{note_text_takes, note_text_again}
use Rattle.wire.specs.Form.{IsNoteRequestText}
use Rattle.wire_reader.proofs.note.read_note_request.Goals as goal

pub returns-clause-ok : goal.returns-clause-ok
returns-clause-ok c = given_ok _ _ (IsNoteRequestText c.args.bytes.now) (note_text_takes c.args.bytes.now) c.note_request_in_bytes.ensures

pub returns-clause-bad : goal.returns-clause-bad
returns-clause-bad c = given_bad _ _ (IsNoteRequestText c.args.bytes.now) (note_text_again c.args.bytes.now) c.note_request_in_bytes.ensures

pub returns-clause-value : goal.returns-clause-value
returns-clause-value c = given_value _ _ c.note_request_in_bytes.ensures

pub returns-clause-none : goal.returns-clause-none
returns-clause-none c = given_none _ _ c.note_request_in_bytes.ensures
