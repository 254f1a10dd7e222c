-- The escapes of characters.
use Rattle.std.proofs.Common.{◌≡◌, ℕ, ◌<◌, ◌≤◌, ◌+◌, ◌/◌, ◌%◌, Bool, true, false, cond, ltb, List, [], ◌∷◌, ◌++◌, refl, ap, sym, ◌∙◌, append-nil, append_assoc, arith}
use Rattle.std.specs.List.{flat_map}
use Rattle.std.proofs.lemmas.Bool.{cases_lt}
use Rattle.std.proofs.lemmas.Bool.Decides.{nat_tests}
use Rattle.std.proofs.lemmas.List.Concat.{flat_map-append}
use Rattle.std.proofs.lemmas.Str.{encode_ascii, encodes-append}
use mathlib.Core.Logic.{⊎_elim}
use lib.Utf8.{encode, encodes}
use Rattle.metrics.specs.declared.escape.Place.{Place}
use Rattle.metrics.specs.declared.escape.Place.TheVariants.{Help, LabelValue}
use Rattle.metrics.specs.steps.Escapes.{escaped_byte}

-- a byte that is no ASCII has no escape
plain : (place : Place) (byte : ℕ) → 128 ≤ byte → escaped_byte place byte ≡ byte ∷ []
plain Help byte high = grind (arith, nat_tests)
plain LabelValue byte high = grind (arith, nat_tests)

plain-cons : (place : Place) (byte : ℕ) (bytes : List ℕ) → 128 ≤ byte → flat_map (escaped_byte place) bytes ≡ bytes
    → flat_map (escaped_byte place) (byte ∷ bytes) ≡ byte ∷ bytes
plain-cons place byte bytes high rest = λ i. plain place byte high i ++ rest i

-- nor has a character that is no ASCII
pub high : (place : Place) (letter : ℕ) → 128 ≤ letter → flat_map (escaped_byte place) (encode letter) ≡ encode letter
unfolding encode
high place letter is_high = by (ltb letter 128) (ltb letter 2048) (ltb letter 65536) refl
  where
    more : (byte : ℕ) (bytes : List ℕ) → 128 ≤ byte → flat_map (escaped_byte place) bytes ≡ bytes
        → flat_map (escaped_byte place) (byte ∷ bytes) ≡ byte ∷ bytes
    more = plain-cons place

    by : (s t u : Bool) → ltb letter 128 ≡ s
        → flat_map (escaped_byte place) (cond s (letter ∷ []) (cond t ((192 + letter / 64) ∷ (128 + letter % 64) ∷ []) (cond u ((224 + letter / 4096) ∷ (128 + letter / 64 % 64) ∷ (128 + letter % 64) ∷ []) ((240 + letter / 262144) ∷ (128 + letter / 4096 % 64) ∷ (128 + letter / 64 % 64) ∷ (128 + letter % 64) ∷ []))))
        ≡ cond s (letter ∷ []) (cond t ((192 + letter / 64) ∷ (128 + letter % 64) ∷ []) (cond u ((224 + letter / 4096) ∷ (128 + letter / 64 % 64) ∷ (128 + letter % 64) ∷ []) ((240 + letter / 262144) ∷ (128 + letter / 4096 % 64) ∷ (128 + letter / 64 % 64) ∷ (128 + letter % 64) ∷ [])))
    by true t u e = more letter [] is_high refl
    by false true u e = more _ _ (omega arith) (more _ _ (omega arith) refl)
    by false false true e = more _ _ (omega arith) (more _ _ (omega arith) (more _ _ (omega arith) refl))
    by false false false e = more _ _ (omega arith) (more _ _ (omega arith) (more _ _ (omega arith) (more _ _ (omega arith) refl)))

low : (place : Place) (letter : ℕ) → letter < 128 → flat_map (escaped_byte place) (encode letter) ≡ escaped_byte place letter
low place letter is_low =
    ap (flat_map (escaped_byte place)) (encode_ascii letter is_low) ∙ append-nil (escaped_byte place letter)

-- a character with no escape is written as it is
kept : (place : Place) (letter : ℕ) → escaped_byte place letter ≡ letter ∷ []
    → flat_map (escaped_byte place) (encode letter) ≡ encode letter
kept place letter none =
    ⊎_elim (λ is_low. low place letter is_low ∙ none ∙ sym (encode_ascii letter is_low)) (λ is_high. high place letter is_high)
    (cases_lt letter 128)

-- the texts after one more character
more : (place : Place) (start before now added : List ℕ) (letters : List ℕ) (letter : ℕ)
    → before ≡ start ++ flat_map (escaped_byte place) (encodes letters) → now ≡ before ++ added
    → flat_map (escaped_byte place) (encode letter) ≡ added
    → now ≡ start ++ flat_map (escaped_byte place) (encodes (letters ++ letter ∷ []))
more place start before now added letters letter was pushed is =
    let one = encodes-append letters (letter ∷ []) ∙ ap (λ x. encodes letters ++ x) (append-nil (encode letter)) in
    let parts = ap (flat_map (escaped_byte place)) one ∙ flat_map-append (escaped_byte place) (encodes letters) (encode letter) in
    pushed ∙ ap (λ x. x ++ added) was ∙ ap (λ x. (start ++ flat_map (escaped_byte place) (encodes letters)) ++ x) (sym is) ∙ append_assoc start _ _ ∙ ap (λ x. start ++ x) (sym parts)

pub more_escaped : (place : Place) (start before now escape : List ℕ) (letters : List ℕ) (letter : ℕ)
    → before ≡ start ++ flat_map (escaped_byte place) (encodes letters) → now ≡ before ++ escape
    → escape ≡ escaped_byte place letter → letter < 128
    → now ≡ start ++ flat_map (escaped_byte place) (encodes (letters ++ letter ∷ []))
more_escaped place start before now escape letters letter was pushed is is_low =
    more place start before now escape letters letter was pushed (low place letter is_low ∙ sym is)

pub more_kept : (place : Place) (start before now : List ℕ) (letters : List ℕ) (letter : ℕ)
    → before ≡ start ++ flat_map (escaped_byte place) (encodes letters) → now ≡ before ++ encode letter
    → escaped_byte place letter ≡ letter ∷ []
    → now ≡ start ++ flat_map (escaped_byte place) (encodes (letters ++ letter ∷ []))
more_kept place start before now letters letter was pushed none =
    more place start before now (encode letter) letters letter was pushed (kept place letter none)
