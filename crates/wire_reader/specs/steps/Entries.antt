-- What the reader of entries reads from a JSON value.
use Rattle.std.specs.Prelude.{List, [], ◌∷◌, codes, Option, Some}
use Rattle.serde_json.specs.Data.{Data}
use Rattle.base_types.specs.declared.op_name.TheConstants.{MAX_SITE}
use Rattle.rules.specs.declared.limits.TheConstants.Limits.{MAX_ENTRIES}
use Rattle.rules.specs.declared.history.Entry.{Entry}
use Rattle.rules.specs.declared.history.Entry.TheVariants.{Operation, Join, Next}
use Rattle.wire_reader.specs.steps.Reading.{◌>>=◌, end_at, field_at, whole_in, name_in, Words}
use Rattle.wire_reader.specs.steps.Reading.{WordReader, worded_message_in}
use Rattle.wire_reader.specs.steps.Bodies.{operation_at}

-- what follows "join"
unfoldable pub entry_join_at : List Data → Option Entry
entry_join_at ds = field_at (whole_in 1 MAX_SITE) end_at ds >>= λ p. Some (Join p.0)

-- what follows "next"
unfoldable pub next_at : List Data → Option Entry
next_at ds = field_at (whole_in 0 MAX_ENTRIES) end_at ds >>= λ p. Some (Next p.0)

-- what follows the word of an operation
unfoldable pub entry_change_at : WordReader Entry
entry_change_at word ds =
    operation_at name_in word ds
    >>= λ p. Some (Operation (record { name = p.0; seen = p.1.0; body = p.1.1 }))

abbrev pub entry_words : Words Entry
entry_words = (codes "join", entry_join_at) ∷ (codes "next", next_at) ∷ []

-- the entry that a JSON value is a form of
unfoldable pub entry_of : Data → Option Entry
entry_of = worded_message_in entry_words entry_change_at
