-- The text of a record.
use Rattle.std.specs.Prelude.{◌≡◌, ℕ, List, [], ◌∷◌, ◌++◌, Some, flat_map, map, if◌then◌else◌}
use Rattle.serde_json.specs.Written.{compact_text}
use Rattle.rules.specs.declared.history.Entry.{Entry}
use Rattle.wire.specs.Form.{entry_form}
use Rattle.wire.specs.Lines.{ends_line, lines_of}
use Rattle.wire_reader.specs.steps.Reads.{entry_read}

abbrev pub entry_line : Entry → List ℕ
entry_line entry = compact_text (entry_form entry) ++ 10 ∷ []

abbrev pub record_text : List Entry → List ℕ
record_text entries = flat_map entry_line entries

-- a byte joins the first line behind it, if there is a whole line
abbrev pub onto_whole : ℕ → List ℕ → List ℕ
onto_whole byte [] = []
onto_whole byte (x ∷ xs) = byte ∷ x ∷ xs

-- the bytes up to and including the last LF
abbrev pub whole_lines : List ℕ → List ℕ
whole_lines [] = []
whole_lines (byte ∷ bytes) =
    if ends_line byte then byte ∷ whole_lines bytes else onto_whole byte (whole_lines bytes)

-- the bytes are whole lines, each a text of the entry at its place
pub record AreLines (bytes : List ℕ) (r : List Entry) : Type 0 where
  pub whole : whole_lines bytes ≡ bytes
  pub read : map entry_read (lines_of bytes) ≡ map Some r
