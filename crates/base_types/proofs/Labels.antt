-- A label is ASCII, and so it is text.
use Rattle.std.proofs.Common.{◌≡◌, ℕ, ◌<◌, ◌≤◌, Bool, true, false, not, ◌&&◌, ◌||◌, length, Some, None, refl, inl, inr, cond, arith, get_or, leb, eqb, ltb, lit<}
use Rattle.std.specs.Prelude.{IsUtf8}
use Rattle.std.specs.List.{position_or_len}
use Rattle.std.specs.Str.{IsAscii}
use Rattle.std.specs.Option.{option_map}
use Rattle.std.proofs.lemmas.Bool.{and_parts, or_cases, leb-true, ltb-true, ltb-false, eqb-true, eqb-false, cases_Bool}
use Rattle.std.proofs.lemmas.List.{get_or_past}
use Rattle.std.proofs.lemmas.List.Sums.{fails_before_first}
use Rattle.std.proofs.lemmas.Str.{IsUtf8-from_ascii}
use Rattle.base_types.specs.declared.fault.NameFault.TheVariants.{Empty, TooLong, BadByte}
use Rattle.base_types.specs.Texts.{Bytes, is_label_byte, label_fault}
use Rattle.base_types.proofs.Choices.{not_first}

label_byte-below : (byte : ℕ) → is_label_byte byte ≡ true → byte < 128
label_byte-below byte e =
    elim (or_cases ((leb 97 byte && leb byte 122) || (leb 48 byte && leb byte 57)) (eqb byte 45) e) [
      | inl a ↦ elim (or_cases (leb 97 byte && leb byte 122) (leb 48 byte && leb byte 57) a) [
        | inl b ↦ omega (arith, leb-true byte 122 (and_parts _ _ b).1)
        | inr b ↦ omega (arith, leb-true byte 57 (and_parts _ _ b).1)
      ]
      | inr a ↦ omega (arith, eqb-true byte 45 a)
    ]

abbrev bad : ℕ → Bool
bad byte = not (is_label_byte byte)

good_if : (b : Bool) → not b ≡ false → b ≡ true
good_if true e = refl
good_if false e = absurd cc

all_good : (bytes : Bytes) → option_map BadByte (cond (ltb (position_or_len bad bytes) (length bytes)) (Some (position_or_len bad bytes)) None) ≡ None → length bytes ≤ position_or_len bad bytes
all_good bytes e = elim (cases_Bool (ltb (position_or_len bad bytes) (length bytes))) [
  | inl t ↦ absurd (let h = rw t at e in cc)
  | inr f ↦ ltb-false _ _ f
]

-- what a label is: neither empty nor too long, and each byte is in range
pub record IsLabel (longest : ℕ) (bytes : Bytes) : Type 0 where
  pub some : 0 < length bytes
  pub short : length bytes ≤ longest
  pub good : (i : ℕ) → i < length bytes → is_label_byte (get_or bytes i 0) ≡ true

pub label_is : (longest : ℕ) (bytes : Bytes) → label_fault longest bytes ≡ None → IsLabel longest bytes
unfolding label_fault
label_is longest bytes none =
    let first = not_first (eqb (length bytes) 0) Empty _ none in
    let second = not_first (ltb longest (length bytes)) TooLong _ first.1 in
    let within : length bytes ≤ position_or_len bad bytes = all_good bytes second.1 in
    record {
      some = omega (arith, eqb-false _ _ first.0);
      short = omega (arith, ltb-false _ _ second.0);
      good = λ i below. (let here : i < position_or_len bad bytes = omega (arith, below, within) in
          good_if _ (fails_before_first bad bytes i 0 here));
    }

pub label-IsAscii : (longest : ℕ) (bytes : Bytes) → label_fault longest bytes ≡ None → IsAscii bytes
label-IsAscii longest bytes none i = elim (cases_Bool (ltb i (length bytes))) [
  | inl t ↦ label_byte-below (get_or bytes i 0) ((label_is longest bytes none).good i (ltb-true i (length bytes) t))
  | inr f ↦ rw (get_or_past bytes i 0 (ltb-false i (length bytes) f)) (lit< tt)
]

pub label-IsUtf8 : (longest : ℕ) (bytes : Bytes) → label_fault longest bytes ≡ None → IsUtf8 bytes
label-IsUtf8 longest bytes none = IsUtf8-from_ascii bytes (label-IsAscii longest bytes none)
