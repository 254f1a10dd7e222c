-- Names of rooms are ASCII, and the digits of a successor write its number.
use Rattle.std.proofs.Common.{◌⊎◌, ◌≡◌, ℕ, ◌<◌, ◌≤◌, ◌+◌, ◌-◌, ◌*◌, ◌^◌, Bool, true, false, not, ◌&&◌, ◌||◌, List, [], ◌∷◌, ◌++◌, length, length-drop, length-append, take, drop, Some, None, Ok, Option, Result, refl, sym, subst, ap, ◌∙◌, inl, inr, cond, arith, rules, get_or, leb, eqb, ltb, bytes_eq, lit<}
use Rattle.std.specs.Prelude.{IsUtf8, decimal, slice_index, is_none}
use Rattle.std.specs.List.{position_or_len, after_first, list_all}
use Rattle.std.specs.Char.{is_ascii_digit}
use Rattle.std.specs.Str.{IsAscii}
use Rattle.std.specs.Str.Parse.{digits_value, AllDigits, ParsesUnsigned}
use Rattle.std.proofs.lemmas.Bool.{and_parts, or_cases, leb-true, ltb-true, ltb-false, le-ltb, eqb-true, eq-eqb, and_left, and_right, and_from, cases_Bool, cond-true, cond-false}
use Rattle.std.proofs.lemmas.List.{take_all, length-take-le}
use Rattle.std.proofs.lemmas.List.Sums.{split_at_first, passes_at_first, position_or_len_is}
use Rattle.std.proofs.lemmas.Str.{IsUtf8-from_ascii, IsAscii-append}
use Rattle.std.proofs.lemmas.Str.Ascii.{IsAscii-cons}
use Rattle.std.proofs.lemmas.Str.Parse.{IsNumeralModel, numerals_by_value, parse_gives, digits_value_short}
use Rattle.std.proofs.lemmas.Fmt.{IsAscii-from_digits}
use Rattle.base_types.specs.declared.fault.NameFault.TheVariants.{TooLong, BadNumber}
use Rattle.base_types.specs.Texts.{Bytes, is_label_byte, label_fault}
use Rattle.base_types.specs.RoomNames.{is_dot, first_name, has_no_dot, is_successor_number, room_name_fault, room_number, numbered, successor}
use Rattle.base_types.proofs.Choices.{not_first}
use Rattle.base_types.proofs.Labels.{label-IsAscii, label_is}

-- the digits of a number, in the words of `parse`
pub numerals : IsNumeralModel (λ ds. list_all is_ascii_digit ds ≡ true) (digits_value 10)
numerals = numerals_by_value _ (search rules)

-- what a successor's number is written in
pub record IsNumber (digits : Bytes) : Type 0 where
  pub digit : list_all is_ascii_digit digits ≡ true
  pub some : 0 < length digits
  pub short : length digits ≤ 6

pub is_number : (digits : Bytes) → is_successor_number digits ≡ true → IsNumber digits
unfolding is_successor_number
is_number digits ok =
    let a = and_parts _ _ (and_parts _ _ ok).0 in let b = and_parts _ _ a.0 in let c = and_parts _ _ b.0 in
    record { digit = b.1; some = ltb-true _ _ c.0; short = leb-true _ _ c.1 }

pub number-IsUtf8 : (digits : Bytes) → is_successor_number digits ≡ true → IsUtf8 digits
number-IsUtf8 digits ok = IsUtf8-from_ascii digits (IsAscii-from_digits digits (numerals.to digits (is_number digits ok).digit))

pub number-lt : (digits : Bytes) → is_successor_number digits ≡ true → digits_value 10 digits < 1000000
number-lt digits ok = omega (arith, digits_value_short numerals digits 6 (is_number digits ok).digit (is_number digits ok).short)

pub number_parses : {E : Type 0} (digits text : Bytes) (r : Result ℕ E) → is_successor_number digits ≡ true → text ≡ digits → ParsesUnsigned 32 10 text r → r ≡ Ok (digits_value 10 digits)
number_parses digits text r ok same parses =
    parse_gives numerals 32 digits r (let h = rw same at parses in h) (is_number digits ok).digit (is_number digits ok).some (omega (arith, number-lt digits ok))

-- ---- the parts of a name

-- a name of a chain's first room is the whole name
first-whole : (name : Bytes) → has_no_dot name ≡ true → first_name name ≡ name
first-whole name none = elim (cases_Bool (ltb (position_or_len is_dot name) (length name))) [
  | inl inside ↦ absurd (omega (arith, eqb-true _ _ none, ltb-true _ _ inside, length-take-le (position_or_len is_dot name) name (omega (arith, ltb-true _ _ inside))))
  | inr past ↦ take_all _ name (ltb-false _ _ past)
]

-- a name with text behind its dot is its parts
parts-of : (name : Bytes) → 0 < length (after_first is_dot name) → name ≡ first_name name ++ (46 ∷ after_first is_dot name)
parts-of name some =
    let within : position_or_len is_dot name < length name = omega (arith, some, length-drop (position_or_len is_dot name + 1) name) in
    split_at_first is_dot name 0 within
    ∙ ap (λ byte. first_name name ++ (byte ∷ after_first is_dot name)) (eqb-true _ 46 (passes_at_first is_dot name 0 within))

-- a choice between a value and a fault that has no fault
or_else : {X : Type 0} (b : Bool) (z : Option X) (x : X) → cond b z (Some x) ≡ None → (b ≡ true) × (z ≡ None)
or_else true z x e = (refl, e)
or_else false z x e = absurd cc

-- what a room's name is
pub record IsRoomName (name : Bytes) : Type 0 where
  pub short : length name ≤ 64
  pub number : (has_no_dot name || is_successor_number (after_first is_dot name)) ≡ true
  pub label : label_fault 64 (first_name name) ≡ None

pub name_is : (name : Bytes) → room_name_fault name ≡ None → IsRoomName name
unfolding room_name_fault
name_is name none =
    let first = not_first (ltb 64 (length name)) TooLong _ none in
    let second = or_else (has_no_dot name || is_successor_number (after_first is_dot name)) _ BadNumber first.1 in
    record { short = omega (arith, ltb-false _ _ first.0); number = second.0; label = second.1 }

pub is_name : (name : Bytes) → length name ≤ 64 → (has_no_dot name || is_successor_number (after_first is_dot name)) ≡ true → label_fault 64 (first_name name) ≡ None → room_name_fault name ≡ None
unfolding room_name_fault
is_name name short number label =
    cond-false _ _ _ (le-ltb 64 (length name) short) ∙ cond-true _ _ _ number ∙ label

pub room_name-IsUtf8 : (name : Bytes) → room_name_fault name ≡ None → IsUtf8 name
room_name-IsUtf8 name none =
    let is = name_is name none in
    let first = label-IsAscii 64 (first_name name) is.label in
    IsUtf8-from_ascii name (elim (or_cases _ _ is.number) [
      | inl whole ↦ subst IsAscii (first-whole name whole) first
      | inr ok ↦ subst IsAscii (sym (parts-of name (is_number _ ok).some))
          (IsAscii-append _ _ first (IsAscii-cons 46 _ (lit< tt) (IsAscii-from_digits _ (numerals.to _ (is_number _ ok).digit))))
    ])

-- ---- a label is the name of a chain's first room

dot-other : (byte : ℕ) → is_label_byte byte ≡ true → is_dot byte ≡ false
dot-other byte ok = elim (cases_Bool (is_dot byte)) [
  | inl dot ↦ absurd (let h = rw (eqb-true byte 46 dot) at ok in cc)
  | inr other ↦ other
]

pub label-has_no_dot : (longest : ℕ) (bytes : Bytes) → label_fault longest bytes ≡ None → position_or_len is_dot bytes ≡ length bytes
label-has_no_dot longest bytes none =
    position_or_len_is is_dot bytes (length bytes) 0 (omega arith)
    (λ k below. dot-other _ ((label_is longest bytes none).good k below)) (λ past. absurd (omega (arith, past)))

pub label_is_name : (bytes : Bytes) → label_fault 64 bytes ≡ None → room_name_fault bytes ≡ None
label_is_name bytes none =
    let whole : first_name bytes ≡ bytes = take_all _ bytes (omega (arith, label-has_no_dot 64 bytes none)) in
    is_name bytes (label_is 64 bytes none).short
    (ap (λ b. b || is_successor_number (after_first is_dot bytes)) (eq-eqb _ _ (ap (λ (b : Bytes). length b) whole)))
    (ap (label_fault 64) whole ∙ none)

-- ---- numbers

pub first_number : (name : Bytes) → has_no_dot name ≡ true → 1 ≡ room_number name
unfolding room_number
first_number name none = sym (cond-true _ _ _ none)

pub later_number : (name : Bytes) → has_no_dot name ≡ false → digits_value 10 (after_first is_dot name) ≡ room_number name
unfolding room_number
later_number name some = sym (cond-false _ _ _ some)

pub later_digits : (name : Bytes) → room_name_fault name ≡ None → has_no_dot name ≡ false → is_successor_number (after_first is_dot name) ≡ true
later_digits name none some = elim (or_cases _ _ (name_is name none).number) [
  | inl whole ↦ absurd (let e = sym whole ∙ some in cc)
  | inr ok ↦ ok
]

-- ---- the name of the next room

pub no_successor : (name : Bytes) → (ltb (room_number name) 999999 ≡ false) ⊎ (leb (length (numbered (first_name name) (room_number name + 1))) 64 ≡ false) → None ≡ successor name
unfolding successor
no_successor name (inl last) = sym (cond-false _ _ _ (and_left _ _ last))
no_successor name (inr long) = sym (cond-false _ _ _ (and_right _ _ long))

pub next_is : (name : Bytes) → ltb (room_number name) 999999 ≡ true → leb (length (numbered (first_name name) (room_number name + 1))) 64 ≡ true → Some (numbered (first_name name) (room_number name + 1)) ≡ successor name
unfolding successor
next_is name low short = sym (cond-true _ _ _ (and_from _ _ low short))
