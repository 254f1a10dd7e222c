-- The text of names with one name more.
use Rattle.std.proofs.Common.{◌≡◌, ℕ, zero, suc, ◌+◌, ◌<◌, ◌≤◌, List, [], ◌∷◌, ◌++◌, length, get_or, drop, take, append_assoc, refl, sym, ap, ◌∙◌, subst, arith, eqb, true, false, ◌⊎◌, inl, inr}
use Rattle.std.proofs.lemmas.Bool.{eqb-true, true≢false}
use Rattle.std.specs.Prelude.{slice_index}
use Rattle.std.specs.Fmt.{decimal}
use Rattle.std.specs.List.{insert, insert_slice}
use Rattle.std.specs.String.Boundary.{IsSplitPoint}
use Rattle.std.proofs.lemmas.Grind.{flat_map-append}
use Rattle.std.proofs.lemmas.List.{append-nil, length-append, take-append-drop, take_more}
use Rattle.std.proofs.Math.Seq.{take-append_seam, drop-append_seam}
use Rattle.serde_json.specs.Written.{compact_text}
use Rattle.wire.specs.Form.{name_form, names_form}
use Rattle.wire.specs.steps.Growing.{next_name, next_names}
use Rattle.wire.proofs.Pages.{later_items}

abbrev text_of : List (ℕ × ℕ) → List ℕ
text_of ns = compact_text (names_form ns)

abbrev name_text : ℕ × ℕ → List ℕ
name_text n = compact_text (name_form n)

text_cons : (x : ℕ × ℕ) (xs : List (ℕ × ℕ)) → text_of (x ∷ xs) ≡ 91 ∷ (name_text x ++ (next_names xs ++ 93 ∷ []))
text_cons x xs = ap (λ s. 91 ∷ (name_text x ++ s)) (later_items name_form xs)

-- what is put in where two parts meet
put_between : (a b c : List ℕ) → insert_slice (a ++ b) (length a) c ≡ a ++ (c ++ b)
put_between a b c =
    (λ i. (take-append_seam a b i ++ c) ++ drop-append_seam a b i) ∙ append_assoc a c b

meet : (a b : List ℕ) → slice_index b 0 < 128 → IsSplitPoint (a ++ b) (length a)
meet a b low = (let sum = length-append a b in omega (arith, sum), λ some within high. absurd (let at = at_meet a in omega (arith, low, high, at)))
  where
    at_meet : (a : List ℕ) → slice_index (a ++ b) (length a) ≡ slice_index b 0
    at_meet [] = refl
    at_meet (x ∷ xs) = at_meet xs

-- ---- before the others

only : (m : ℕ × ℕ) → insert_slice (text_of []) 1 (name_text m) ≡ text_of (m ∷ [])
only m = sym (text_cons m [])

first : (m x : ℕ × ℕ) (xs : List (ℕ × ℕ)) → insert_slice (text_of (x ∷ xs)) 1 (name_text m ++ 44 ∷ []) ≡ text_of (m ∷ x ∷ xs)
first m x xs =
    let rest : List ℕ = name_text x ++ (next_names xs ++ 93 ∷ []) in
    ap (λ s. insert_slice s 1 (name_text m ++ 44 ∷ [])) (text_cons x xs)
    ∙ ap (λ s. 91 ∷ s) (append_assoc (name_text m) (44 ∷ []) rest)
    ∙ sym (text_cons m (x ∷ xs) ∙ ap (λ s. 91 ∷ (name_text m ++ 44 ∷ s)) (append_assoc (name_text x) (next_names xs) (93 ∷ [])))

pub put_first : (m : ℕ × ℕ) (ns : List (ℕ × ℕ)) (text piece : List ℕ) → text ≡ text_of ns
    → ((eqb (length ns) 0 ≡ true) × (piece ≡ name_text m)) ⊎ ((eqb (length ns) 0 ≡ false) × (piece ≡ name_text m ++ 44 ∷ [])) → insert_slice text 1 piece ≡ text_of (m ∷ ns)
put_first m [] text piece e (inl a) = (λ i. insert_slice (e i) 1 (a.1 i)) ∙ only m
put_first m [] text piece e (inr a) = absurd (true≢false a.0)
put_first m (x ∷ xs) text piece e (inl a) = let q = eqb-true (length (x ∷ xs)) 0 a.0 in absurd (omega (arith, q))
put_first m (x ∷ xs) text piece e (inr a) = (λ i. insert_slice (e i) 1 (a.1 i)) ∙ first m x xs

pub first_splits : (ns : List (ℕ × ℕ)) → IsSplitPoint (text_of ns) 1
first_splits [] = meet (91 ∷ []) (93 ∷ []) (omega arith)
first_splits (x ∷ xs) = subst (λ s. IsSplitPoint s 1) (sym (text_cons x xs)) (meet (91 ∷ []) (name_text x ++ (next_names xs ++ 93 ∷ [])) (omega arith))

-- ---- how long the texts are

pub len_of_pair : (a b : ℕ) → length (next_name (a, b)) ≡ 4 + length (decimal a) + length (decimal b)
len_of_pair a b =
    let whole = length-append (decimal a) (44 ∷ (decimal b ++ 93 ∷ [])) in
    let rest = length-append (decimal b) (93 ∷ []) in omega (arith, whole, rest)

pub one_more : (ns : List (ℕ × ℕ)) (i : ℕ) (x : ℕ × ℕ) → i < length ns → x ≡ get_or ns i x → length (next_names (take (i + 1) ns)) ≡ length (next_names (take i ns)) + length (next_name x)
one_more ns i x l e =
    ap (λ s. length (next_names s)) (take_more ns i x l ∙ ap (λ z. take i ns ++ z ∷ []) (sym e))
    ∙ ap length (flat_map-append next_name (take i ns) (x ∷ []))
    ∙ length-append (next_names (take i ns)) (next_name x ++ [])
    ∙ ap (λ s. length (next_names (take i ns)) + length s) (append-nil (next_name x))

pub no_more : (ns : List (ℕ × ℕ)) (i : ℕ) → length (next_names (take i ns)) ≤ length (next_names ns)
no_more ns i =
    let whole = ap (λ s. length (next_names s)) (sym (take-append-drop i ns)) ∙ ap length (flat_map-append next_name (take i ns) (drop i ns)) ∙ length-append (next_names (take i ns)) (next_names (drop i ns)) in
    omega (arith, whole)

-- ---- behind some

module _ (x : ℕ × ℕ) (xs : List (ℕ × ℕ)) (k : ℕ) where
  abbrev front : List ℕ
  front = 91 ∷ (name_text x ++ next_names (take k xs))

  abbrev back : List ℕ
  back = next_names (drop k xs) ++ 93 ∷ []

  parts : text_of (x ∷ xs) ≡ front ++ back
  parts =
      text_cons x xs
      ∙ ap (λ s. 91 ∷ (name_text x ++ (s ++ 93 ∷ []))) (ap next_names (sym (take-append-drop k xs)) ∙ flat_map-append next_name (take k xs) (drop k xs))
      ∙ ap (λ s. 91 ∷ (name_text x ++ s)) (append_assoc (next_names (take k xs)) (next_names (drop k xs)) (93 ∷ []))
      ∙ ap (λ s. 91 ∷ s) (sym (append_assoc (name_text x) (next_names (take k xs)) back))

  low_byte : slice_index back 0 < 128
  low_byte = of_rest (drop k xs)
    where
      of_rest : (ys : List (ℕ × ℕ)) → slice_index (next_names ys ++ 93 ∷ []) 0 < 128
      of_rest [] = omega arith
      of_rest (y ∷ ys) = omega arith

  splits : IsSplitPoint (text_of (x ∷ xs)) (length front)
  splits = subst (λ s. IsSplitPoint s (length front)) (sym parts) (meet front back low_byte)

  grown : (m : ℕ × ℕ) → insert_slice (text_of (x ∷ xs)) (length front) (44 ∷ name_text m) ≡ text_of (insert (x ∷ xs) (suc k) m)
  grown m =
      ap (λ s. insert_slice s (length front) (44 ∷ name_text m)) parts
      ∙ put_between front back (44 ∷ name_text m)
      ∙ ap (λ s. 91 ∷ s) (append_assoc (name_text x) (next_names (take k xs)) (44 ∷ (name_text m ++ back)))
      ∙ sym (text_cons x (take k xs ++ m ∷ drop k xs)
      ∙ ap (λ s. 91 ∷ (name_text x ++ (s ++ 93 ∷ []))) (flat_map-append next_name (take k xs) (m ∷ drop k xs))
      ∙ ap (λ s. 91 ∷ (name_text x ++ s)) (append_assoc (next_names (take k xs)) (44 ∷ (name_text m ++ next_names (drop k xs))) (93 ∷ []))
      ∙ ap (λ s. 91 ∷ (name_text x ++ (next_names (take k xs) ++ 44 ∷ s))) (append_assoc (name_text m) (next_names (drop k xs)) (93 ∷ [])))

-- the texts of the first names take no more than all
pub fits : (ns : List (ℕ × ℕ)) (at : ℕ) → 0 < at → at ≤ length ns → length (next_names (take at ns)) ≤ length (text_of ns)
fits [] at some within = absurd (omega (arith, some, within))
fits (x ∷ xs) zero some within = absurd (omega (arith, some))
fits (x ∷ xs) (suc k) some within =
    let sum = length-append (front x xs k) (back x xs k) in
    let all = ap length (parts x xs k) in omega (arith, sum, all)

pub behind_splits : (ns : List (ℕ × ℕ)) (at : ℕ) → 0 < at → at ≤ length ns → IsSplitPoint (text_of ns) (length (next_names (take at ns)))
behind_splits [] at some within = absurd (omega (arith, some, within))
behind_splits (x ∷ xs) zero some within = absurd (omega (arith, some))
behind_splits (x ∷ xs) (suc k) some within = splits x xs k

pub behind : (ns : List (ℕ × ℕ)) (at : ℕ) (m : ℕ × ℕ) → 0 < at → at ≤ length ns → insert_slice (text_of ns) (length (next_names (take at ns))) (44 ∷ name_text m) ≡ text_of (insert ns at m)
behind [] at m some within = absurd (omega (arith, some, within))
behind (x ∷ xs) zero m some within = absurd (omega (arith, some))
behind (x ∷ xs) (suc k) m some within = grown x xs k m
