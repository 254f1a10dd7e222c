use Rattle.wire_reader.proofs.NoteTexts as notes
use Rattle.wire_reader.proofs.laws.note_requests_by_form.Goals as goal

pub returns : goal.returns
returns c = notes.note_requests_by_form
