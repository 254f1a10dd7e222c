use Rattle.wire_reader.proofs.NoteTexts as notes
use Rattle.wire_reader.proofs.laws.one_note_request.Goals as goal

pub returns-clause-one : goal.returns-clause-one
returns-clause-one c = notes.one_note_request

pub returns-clause-apart : goal.returns-clause-apart
returns-clause-apart c = notes.no_other_request
