use Rattle.wire.specs.Form.{IsEntryText}
use Rattle.wire_reader.specs.steps.Reads.{entry_read}
use Rattle.wire_reader.proofs.ByForm.{given_value, given_none, given_ok, given_bad, text_takes, text_again}
use Rattle.wire_reader.proofs.Entries.{reads_entries}
use Rattle.wire_reader.proofs.entry.read_entry.Goals as goal

pub returns-clause-ok : goal.returns-clause-ok
returns-clause-ok c = given_ok _ _ (IsEntryText c.args.bytes.now) (text_takes reads_entries c.args.bytes.now) c.read_text.ensures

pub returns-clause-bad : goal.returns-clause-bad
returns-clause-bad c = given_bad _ _ (IsEntryText c.args.bytes.now) (text_again reads_entries c.args.bytes.now) c.read_text.ensures

pub returns-clause-value : goal.returns-clause-value
unfolding entry_read
returns-clause-value c = given_value _ _ c.read_text.ensures

pub returns-clause-none : goal.returns-clause-none
unfolding entry_read
returns-clause-none c = given_none _ _ c.read_text.ensures
