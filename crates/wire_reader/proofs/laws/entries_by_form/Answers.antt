use Rattle.wire_reader.proofs.EntryTexts as entries
use Rattle.wire_reader.proofs.laws.entries_by_form.Goals as goal

pub returns : goal.returns
returns c = entries.entries_by_form
