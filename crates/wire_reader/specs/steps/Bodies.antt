-- What the reader of operations reads of what follows a word.
use Rattle.std.specs.Prelude.{List, [], ◌∷◌, codes, Option, Some}
use Rattle.serde_json.specs.Data.{Data}
use Rattle.base_types.specs.Vectors.{Vector}
use Rattle.rules.specs.declared.history.Body.{Body}
use Rattle.rules.specs.declared.history.Body.TheVariants.{New, Put, DropVersion}
use Rattle.wire_reader.specs.steps.Reading.{◌>>=◌, end_at, field_at, seen_in, kind_in, attrs_in}
use Rattle.wire_reader.specs.steps.Reading.{pairs_in, name_in, id_in, key_in, value_in, Words}
use Rattle.wire_reader.specs.steps.Reading.{WordReader, no_others, by_word}

-- what a creation does
unfoldable pub new_at : List Data → Option Body
new_at ds = field_at kind_in (field_at attrs_in end_at) ds >>= λ p. Some (New p.0 p.1.0)

-- what a put does
unfoldable pub put_at : List Data → Option Body
put_at ds =
    field_at name_in (field_at id_in (field_at pairs_in end_at)) ds >>= λ p.
    Some (Put p.0 p.1.0 p.1.1.0)

-- what a drop does
unfoldable pub drop_at : List Data → Option Body
drop_at ds = field_at name_in (field_at id_in end_at) ds >>= λ p. Some (DropVersion p.0 p.1.0)

-- what a put of one pair does, in the old form
unfoldable pub one_pair_at : List Data → Option Body
one_pair_at ds =
    field_at name_in (field_at id_in (field_at key_in (field_at value_in end_at))) ds
    >>= λ p. Some (Put p.0 p.1.0 ((p.1.1.0, p.1.1.1.0) ∷ []))

abbrev pub body_words : Words Body
body_words = (codes "new", new_at) ∷ (codes "put", put_at) ∷ (codes "drop", drop_at)
    ∷ (codes "set", one_pair_at) ∷ []

-- what the operation of a word does
unfoldable pub body_at : WordReader Body
body_at = by_word body_words no_others

-- what follows the word of an operation: its name or its number, what its author had seen, and what
-- it does
abbrev pub operation_at : {X : Type 0} → (Data → Option X) → WordReader (X × (Vector × Body))
operation_at head word = field_at head (field_at seen_in (body_at word))
