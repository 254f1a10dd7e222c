-- What the readers of the parts read from a JSON value: the value of a form, or nothing.
use Rattle.std.specs.Prelude.{◌≡◌, ℕ, ◌^◌, ◌-◌, ◌&&◌, ℤ, pos, negsuc, List, [], ◌∷◌, Bool, nat_le}
use Rattle.std.specs.Prelude.{nat_lt, if◌then◌else◌, Option, Some, None, option_map}
use Rattle.std.specs.Prelude.{option_and_then, Result, Ok, Err, bytes_eq, ⊤}
use Rattle.serde_json.specs.Data.{Num, unsigned, negative, float, Data, Items, no_items, item}
use Rattle.serde_json.specs.Find.{as_array, as_number, as_str, as_u64}
use Rattle.base_types.specs.Names.{is_op_name}
use Rattle.base_types.specs.VersionIds.{names_rise}
use Rattle.base_types.specs.Texts.{is_key, is_kind, is_value_text}
use Rattle.base_types.specs.RoomNames.{is_room_name}
use Rattle.base_types.specs.declared.value.Value.{Value}
use Rattle.base_types.specs.declared.value.Value.TheVariants.{Number, Text}
use Rattle.base_types.specs.Vectors.{is_vector}
use Rattle.rules.specs.AttrLists.{Attr, are_attrs, are_pairs}
use Rattle.wire_reader.specs.declared.fault.ReadFault.{ReadFault}
use Rattle.wire_reader.specs.declared.fault.ReadFault.TheVariants.{Bad, NoMemory}

-- a step, and then the one that goes by what it read
infixl 10 ◌>>=◌
abbrev pub ◌>>=◌ : {A B : Type 0} → Option A → (A → Option B) → Option B
(Some x) >>= f = f x
None >>= f = None

-- a refusal is where reading gives nothing; want of memory says nothing
abbrev pub Fails : {Y : Type 0} → ReadFault → Option Y → Type 0
Fails NoMemory read = Unit {0}
Fails Bad read = read ≡ None

-- what a function returned, seen by view, is what reading gives, unless memory ran out
abbrev pub Gives : {X Y : Type 0} → (X → Y) → Result X ReadFault → Option Y → Type 0
Gives view (Ok x) read = read ≡ Some (view x)
Gives view (Err e) read = Fails e read

-- the items, as a list
abbrev pub listed : Items → List Data
listed no_items = []
listed (item d ds) = d ∷ listed ds

-- a list's items
unfoldable pub items_in : Data → Option (List Data)
items_in d = option_map listed (as_array d)

-- an i64; a negative number that isn't below 0, which no JSON number holds, gives none
unfoldable pub integer_at : Num → Option ℤ
integer_at (unsigned n) = if nat_lt n (2 ^ 63) then Some (pos n) else None
integer_at (negative (pos n)) = None
integer_at (negative (negsuc n)) = if nat_lt n (2 ^ 63) then Some (negsuc n) else None
integer_at (float x) = None

-- a whole number in the range of i64
unfoldable pub integer_in : Data → Option ℤ
integer_in d = option_and_then integer_at (as_number d)

-- what is read, where it passes the test
abbrev pub passing : {X : Type 0} → (X → Bool) → (Data → Option X) → Data → Option X
passing test read d = read d >>= λ x. if test x then Some x else None

-- each of the values, in order
unfoldable pub all_in : {X : Type 0} → (Data → Option X) → List Data → Option (List X)
all_in read [] = Some []
all_in read (d ∷ ds) = do
  x ← read d
  xs ← all_in read ds
  Some (x ∷ xs)

-- a list of such parts
unfoldable pub list_in : {X : Type 0} → (Data → Option X) → Data → Option (List X)
list_in read d = items_in d >>= all_in read

-- two values
unfoldable pub two_at : {X Y : Type 0} → (Data → Option X) → (Data → Option Y) → List Data
    → Option (X × Y)
two_at first second (a ∷ b ∷ []) = do
  x ← first a
  y ← second b
  Some (x, y)
two_at first second _ = None

-- a list of two
unfoldable pub two_in : {X Y : Type 0} → (Data → Option X) → (Data → Option Y) → Data
    → Option (X × Y)
two_in first second d = items_in d >>= two_at first second

-- a whole number from 0
unfoldable pub natural_in : Data → Option ℕ
natural_in d = option_and_then as_u64 (as_number d)

-- a whole number in these bounds
unfoldable pub whole_in : ℕ → ℕ → Data → Option ℕ
whole_in low high = passing (λ n. nat_le low n && nat_le n high) natural_in

-- two u32
unfoldable pub pair_in : Data → Option (ℕ × ℕ)
pair_in = two_in (whole_in 0 (2 ^ 32 - 1)) (whole_in 0 (2 ^ 32 - 1))

-- the name of an operation
unfoldable pub name_in : Data → Option (ℕ × ℕ)
name_in = passing is_op_name pair_in

-- the name of a room
unfoldable pub room_in : Data → Option (List ℕ)
room_in = passing is_room_name as_str

-- a state vector
unfoldable pub seen_in : Data → Option (List (ℕ × ℕ))
seen_in = passing is_vector (list_in pair_in)

-- the identifier of a version
unfoldable pub id_in : Data → Option (List (ℕ × ℕ))
id_in = passing names_rise (list_in name_in)

-- the key of an attribute
unfoldable pub key_in : Data → Option (List ℕ)
key_in = passing is_key as_str

-- the kind of an object
unfoldable pub kind_in : Data → Option (List ℕ)
kind_in = passing is_kind as_str

-- a value by whether it is a text
abbrev text_or_number : Option (List ℕ) → Data → Option Value
text_or_number (Some s) d = if is_value_text s then Some (Text s) else None
text_or_number None d = do
  z ← integer_in d
  Some (Number z)

-- the value of an attribute
unfoldable pub value_in : Data → Option Value
value_in d = text_or_number (as_str d) d

-- an attribute
unfoldable pub attr_in : Data → Option Attr
attr_in = two_in key_in value_in

-- the attributes of a creation
unfoldable pub attrs_in : Data → Option (List Attr)
attrs_in = passing are_attrs (list_in attr_in)

-- the attributes of a put
unfoldable pub pairs_in : Data → Option (List Attr)
pairs_in = passing are_pairs (list_in attr_in)

-- no more fields
abbrev pub end_at : List Data → Option ⊤
end_at [] = Some tt
end_at (d ∷ ds) = None

-- a field, and then others
abbrev pub field_at : {X Y : Type 0} → (Data → Option X) → (List Data → Option Y) → List Data
    → Option (X × Y)
field_at first others [] = None
field_at first others (d ∷ ds) = do
  x ← first d
  y ← others ds
  Some (x, y)

-- a word, and what follows it
abbrev pub worded_at : List Data → Option (List ℕ × List Data)
worded_at [] = None
worded_at (first ∷ rest) = do
  word ← as_str first
  Some (word, rest)

-- a list of a word and what follows it
unfoldable pub worded_in : Data → Option (List ℕ × List Data)
worded_in d = items_in d >>= worded_at

-- by a word, what is read of what follows it
abbrev pub WordReader : Type 0 → Type 0
WordReader X = List ℕ → List Data → Option X

-- words, each with the reader of what follows it
abbrev pub Words : Type 0 → Type 0
Words X = List (List ℕ × (List Data → Option X))

-- nothing is read after a word
abbrev pub no_others : {X : Type 0} → WordReader X
no_others word rest = None

-- by the word, what follows it; after another word it is read as others say
abbrev pub by_word : {X : Type 0} → Words X → WordReader X → WordReader X
by_word [] others word rest = others word rest
by_word (first ∷ words) others word rest =
    if bytes_eq word first.0 then first.1 rest else by_word words others word rest

-- a list of a word and what follows it, by the word
abbrev pub worded_message_in : {X : Type 0} → Words X → WordReader X → Data → Option X
worded_message_in words others d = worded_in d >>= λ p. by_word words others p.0 p.1
