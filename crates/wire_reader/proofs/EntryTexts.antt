-- The texts of entries.
use Rattle.std.proofs.Common.{◌≡◌, ℕ, List, Some}
use Rattle.std.specs.Prelude.{◌↔◌}
use Rattle.rules.specs.declared.history.Entry.{Entry}
use Rattle.wire.specs.Form.{IsEntryText}
use Rattle.wire_reader.specs.steps.Reads.{entry_read}
use Rattle.wire_reader.proofs.Entries.{reads_entries}
use Rattle.wire_reader.proofs.ByForm.{texts_by_form, one_value}

pub entries_by_form : (bytes : List ℕ) (e : Entry) → (entry_read bytes ≡ Some e) ↔ IsEntryText bytes e
unfolding entry_read
entries_by_form bytes e = texts_by_form reads_entries bytes e

-- bytes are a text of one entry at most
pub one_entry : (bytes : List ℕ) (p q : Entry) → IsEntryText bytes p → IsEntryText bytes q → p ≡ q
one_entry = one_value reads_entries
