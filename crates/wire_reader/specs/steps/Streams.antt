-- What the readers read from the tokens of a text, one after another.
use Rattle.std.specs.Prelude.{◌≡◌, ℕ, List, [], ◌∷◌, ◌++◌, length, Option, Some, None, ⊤, Result}
use Rattle.std.specs.Prelude.{Ok, Err, Bool, true, false, ℤ, pos, negsuc, option_and_then, bytes_eq}
use Rattle.std.specs.Prelude.{if◌then◌else◌}
use Rattle.json.specs.Token.{Token}
use Rattle.json.specs.Json.{Parse, items, value}
use Rattle.serde_json.specs.Data.{Data}
use Rattle.serde_json.specs.Find.{as_str}
use Rattle.serde_json.specs.Read.{of_json, of_items, converted, number_of}
use Rattle.base_types.specs.Texts.{is_value_text}
use Rattle.base_types.specs.declared.value.Value.{Value}
use Rattle.base_types.specs.declared.value.Value.TheVariants.{Number, Text}
use Rattle.wire_reader.specs.declared.fault.ReadFault.{ReadFault}
use Rattle.wire_reader.specs.steps.Reading.{◌>>=◌, integer_at, listed, Fails, Words, WordReader}

-- what the next value is read as, and the tokens after it. Lists nest at most n deep
unfoldable pub next_in : {X : Type 0} → (Data → Option X) → ℕ → Parse X
next_in reader n ts = converted reader (converted of_json (value n ts))

-- what the values up to the end of a list are read as, and the tokens after that end
unfoldable pub rest_in : {X : Type 0} → (List Data → Option X) → ℕ → Parse X
rest_in reader n ts =
    converted (λ is. reader (listed is)) (converted of_items (items (value n) (length ts) ts))

-- what a function returned, seen by view, is what these tokens are read as, and it left the tokens
-- after them, unless an allocation failed
abbrev pub Takes : {X Y : Type 0} → (X → Y) → Result X ReadFault → Option (Y × List Token)
    → List Token → Type 0
Takes view (Ok x) read left = read ≡ Some (view x, left)
Takes view (Err e) read left = Fails e read

-- the tokens of a list, without its beginning
abbrev pub list_opened : List Token → Option (List Token)
list_opened (Token.begin_array ∷ ts) = Some ts
list_opened _ = None

-- a string
abbrev pub string_of : Token → Option (List ℕ)
string_of (Token.string s) = Some s
string_of _ = None

-- the text of a number
abbrev pub numeral_of : Token → Option (List ℕ)
numeral_of (Token.number s) = Some s
numeral_of _ = None

-- by the word, how the rest of a list is read; after another word as others say
abbrev pub rest_by_word : {X : Type 0} → Words X → WordReader X → List ℕ → ℕ → Parse X
rest_by_word [] others word n ts = rest_in (others word) n ts
rest_by_word (first ∷ words) others word n ts =
    if bytes_eq word first.0 then rest_in first.1 n ts else rest_by_word words others word n ts

-- a function passed these tokens, or they are not there
abbrev pub Passes : Result ⊤ ReadFault → Option (List Token) → List Token → Type 0
Passes (Ok x) after left = after ≡ Some left
Passes (Err e) after left = Fails e after

-- these, and then what is read
abbrev pub fronted : {X : Type 0} → List X → Option (List X × List Token)
    → Option (List X × List Token)
fronted front read = read >>= λ q. Some (front ++ q.0, q.1)

-- the word that a list begins with, as it is read
abbrev pub worded : ℕ → Parse (List ℕ)
worded n ts = list_opened ts >>= next_in as_str n

-- the value of an attribute at this token
abbrev pub value_of : Token → Option Value
value_of (Token.string s) = if is_value_text s then Some (Text s) else None
value_of (Token.number s) = option_and_then integer_at (number_of s) >>= λ z. Some (Number z)
value_of _ = None

-- a number, if it is below 0
abbrev pub below_zero : Option ℤ → Option ℤ
below_zero None = None
below_zero (Some (pos n)) = None
below_zero (Some (negsuc n)) = Some (negsuc n)

-- does the token begin a list
abbrev pub begins_list : Token → Bool
begins_list Token.begin_array = true
begins_list _ = false
