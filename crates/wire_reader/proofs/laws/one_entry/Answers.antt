use Rattle.wire_reader.proofs.EntryTexts as entries
use Rattle.wire_reader.proofs.laws.one_entry.Goals as goal

pub returns : goal.returns
returns c = entries.one_entry
