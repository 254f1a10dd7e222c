-- The number that a few digits write.
use Rattle.std.proofs.Common.{◌≡◌, ℕ, suc, ◌+◌, ◌-◌, ◌*◌, ◌^◌, ◌<◌, ◌≤◌, false, List, [], ◌∷◌, ◌++◌, length, take, get_or, Some, refl, sym, ap, ◌∙◌, subst, arith, eqb}
use Rattle.std.specs.Prelude.{option_and_then, pos}
use Rattle.std.specs.Int.{IsInRange}
use Rattle.std.specs.Char.{digit_value}
use Rattle.std.specs.Str.Parse.{digits_value, AllDigits, IsNumeral}
use Rattle.std.proofs.Math.Nat.{pow-suc, pow-le-pow_right}
use Rattle.std.proofs.lemmas.Bool.{ne_eqb}
use Rattle.std.proofs.lemmas.Float.Parse.{scan_numeral-text_of}
use Rattle.std.proofs.lemmas.Int.Digits.{digits_value_more}
use Rattle.std.proofs.lemmas.List.{append-nil, take_more}
use Rattle.std.proofs.lemmas.Str.{digit_value_digit}
use Rattle.std.proofs.lemmas.Str.Parse.{digit_from_value}
use Rattle.fast_float.specs.Text.{scan, Parts, digits_of, IsInteger}
use Rattle.serde_json.specs.Find.{as_u64}
use Rattle.serde_json.specs.Read.{number_of}
use Rattle.wire_reader.specs.steps.Reading.{integer_at}
use Rattle.wire_reader.proofs.Tokens.{natural_of_text, integer_of_text}

-- the first bytes are digits, and this is their number
pub record DigitsRead (digits : List ℕ) (number index : ℕ) : Type 0 where
  pub value : number ≡ digits_value 10 (take index digits)
  pub below : number < 10 ^ index
  pub all : AllDigits 10 (take index digits)

pub none_read : (digits : List ℕ) → DigitsRead digits 0 0
none_read digits = record { value = refl; below = omega arith; all = tt }

all_digits_push : (xs : List ℕ) (c : ℕ) → AllDigits 10 xs → digit_value c < 10 → AllDigits 10 (xs ++ c ∷ [])
all_digits_push [] c h l = (l, tt)
all_digits_push (x ∷ xs) c h l = (h.0, all_digits_push xs c h.1 l)

-- one digit more
pub digit_more : (digits : List ℕ) (number index : ℕ) → DigitsRead digits number index → index < length digits → IsInRange 48 57 (get_or digits index 0)
    → DigitsRead digits (number * 10 + (get_or digits index 0 - 48)) (index + 1)
digit_more digits number index h l r =
    let c : ℕ = get_or digits index 0 in
    let v = digit_value_digit c r in
    let value = h.value in
    let below = h.below in
    let one : index + 1 ≡ suc index = omega arith in
    let power : 10 ^ (index + 1) ≡ 10 ^ index * 10 = ap (λ i. 10 ^ i) one ∙ pow-suc 10 index in
    let low = r.0 in
    let high = r.1 in
    record {
      value = (λ i. value i * 10 + (let d : c - 48 ≡ digit_value c = omega (arith, v, low) in d i)) ∙ sym (digits_value_more 10 digits index l);
      below = omega (arith, below, power, low, high);
      all = subst (AllDigits 10) (sym (take_more digits index 0 l)) (all_digits_push (take index digits) c h.all (omega (arith, v, low, high)));
    }

-- what is read of at most nine digits has room for one more
pub room_for_digit : (digits : List ℕ) (number index : ℕ) → DigitsRead digits number index → index < 9 → number < 100000000
room_for_digit digits number index h l =
    let below = h.below in
    let few : index ≤ 8 = omega arith in
    let most = pow-le-pow_right {n = 10} (omega arith) few in
    omega (arith, below, most)

-- digits and nothing else
module _ (s : List ℕ) (numeral : IsNumeral 10 s) where
  abbrev parts : Parts
  parts = record { whole = s; point = false; fraction = []; exponent_negative = false; exponent = []; len = length s }

  scanned : scan s ≡ parts
  unfolding scan
  scanned = ap scan (sym (append-nil s)) ∙ scan_numeral-text_of parts (record {
    whole_digits = numeral.1;
    fraction_digits = tt;
    exponent_digits = tt;
    no_point = λ e. refl;
    no_exponent = λ e. refl;
    len_is = ap length (sym (append-nil s));
  })

  digits_are : digits_of (scan s) ≡ digits_value 10 s
  digits_are = ap digits_of scanned ∙ ap (digits_value 10) (append-nil s)

  is_integer : IsInteger (scan s)
  is_integer = subst IsInteger (sym scanned) (numeral.0, refl, refl)

  no_minus : (xs : List ℕ) → IsNumeral 10 xs → eqb (get_or xs 0 0) 45 ≡ false
  no_minus [] n = absurd (let l = n.0 in omega arith)
  no_minus (c ∷ cs) n = let r = digit_from_value c n.1.0 in ne_eqb c 45 (λ e. let low = r.0 in omega (arith, low, e))

  pub natural_of_digits : (number : ℕ) → number ≡ digits_value 10 s → number < 2 ^ 32 → Some number ≡ option_and_then as_u64 (number_of s)
  natural_of_digits number e l =
      let same = digits_are in
      natural_of_text s (Some number) (no_minus s numeral) ((is_integer, omega (arith, same, e, l)), e ∙ sym digits_are)

  pub integer_of_digits : (number : ℕ) → number ≡ digits_value 10 s → number < 2 ^ 32 → Some (pos number) ≡ option_and_then integer_at (number_of s)
  integer_of_digits number e l =
      let same = digits_are in
      integer_of_text s (Some (pos number)) (no_minus s numeral) ((is_integer, omega (arith, same, e, l)), ap pos (e ∙ sym digits_are))
