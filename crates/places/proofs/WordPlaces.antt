-- Words of 64 bits, and the places that they have.
use Rattle.std.proofs.Common.{◌≡◌, ℕ, zero, suc, ◌+◌, ◌*◌, ◌/◌, ◌%◌, ◌^◌, ◌<◌, ◌≤◌, min, max, Bool, true, false, not, ◌&&◌, ◌||◌, List, [], ◌∷◌, length, get_or, set, map, refl, sym, ap, ◌∙◌, inl, inr, arith, eqb, w64}
use Rattle.std.proofs.Math.ListN.{length-set}
use Rattle.std.specs.Prelude.{filter, bit_and, bit_or, bit_xor}
use Rattle.std.specs.Int.{bit_at}
use Rattle.std.specs.Int.Bits.{or_zero_r, and_zero_r, xor_zero_r}
use Rattle.std.specs.List.{list_any, range_with_len}
use Rattle.std.specs.List.Sorted.{IsStrictlyIncreasing}
use Rattle.std.specs.Ordering.{nat_cmp}
use Rattle.std.specs.declared.cmp.Ordering.TheVariants.{Less, Equal, Greater}
use Rattle.std.specs.Cmp.{nat_cmp_is}
use Rattle.std.proofs.lemmas.Bool.{true≢false, cases_Bool, cases_eq, cases_lt, cases_order, eq-eqb, eqb-true, ne_eqb, le-ltb, lt-ltb, or_right, or_cases, and_parts, and_from, false_from_ne_true, true_from_ne_false}
use Rattle.std.proofs.lemmas.Cmp.{nat_cmp_total}
use Rattle.std.proofs.lemmas.List.{get_or_past, get_or-set_same, get_or-set_other}
use Rattle.std.proofs.lemmas.List.Kept.{IsStrictlyIncreasing-filter}
use Rattle.std.proofs.lemmas.List.FromFn.{length-range_with_len, get_or-range_with_len, get_or-map-range_with_len, length-map-range_with_len}
use Rattle.std.proofs.lemmas.Nat.Bits.{bit_at_and, bit_at_or, bit_at_xor, bit_at-zero, bit_at-lt, bit_at_set_same, bit_at_set_other, same_from_bits, bit_at_above}
use Rattle.rules.proofs.Lists.{In-filter, In-filter_back, In-range_back, any_from, any_back, all_from, all_back}
use Rattle.rules.proofs.Relation.{same_answer}
use Rattle.rules.proofs.Sorting.{Rises, rises_same}
use Rattle.places.specs.steps.PlaceSet.{has, with_place, is_within, places, with_places, with_those}
use Rattle.places.specs.steps.Words.{common_word, has_bit, places_in, rest_word}
use Rattle.places.proofs.Places.{has_if_in, in_if_has, has-filter, has-filter_past}

-- ---- rising lists

abbrev pub Up : List ℕ → Type 0
Up xs = Rises nat_cmp nat_cmp_total xs

pub same_set : (xs ys : List ℕ) → Up xs → Up ys → ((x : ℕ) → has xs x ≡ has ys x) → xs ≡ ys
same_set xs ys u v f =
    rises_same nat_cmp nat_cmp_total xs ys u v
    (λ z m. in_if_has ys z (sym (f z) ∙ has_if_in xs z m))
    (λ z m. in_if_has xs z (f z ∙ has_if_in ys z m))

pub less : (a b : ℕ) → a < b → nat_cmp a b ≡ Less
less a b l = sym (nat_cmp_is a b Less l)

pub below_from_less : (a b : ℕ) → nat_cmp a b ≡ Less → a < b
below_from_less a b e = elim (cases_order a b) [
  | inl q ↦ (let f : Equal ≡ nat_cmp a b = nat_cmp_is a b Equal q in let g : Equal ≡ Less = f ∙ e in cc)
  | inr c ↦ elim c [ inl l ↦ l | inr g ↦ (let f : Greater ≡ nat_cmp a b = nat_cmp_is a b Greater g in let h : Greater ≡ Less = f ∙ e in cc) ]
]

pub up_range : (a n : ℕ) → Up (range_with_len a n)
up_range a zero = tt
up_range a (suc n) = ((λ y m. let b = In-range_back (a + 1) n y m in less a y (omega (arith, b.0))), up_range (a + 1) n)

pub up_filter : (p : ℕ → Bool) (xs : List ℕ) → Up xs → Up (filter p xs)
up_filter p [] u = tt
up_filter p (x ∷ xs) u = elim (cases_Bool (p x)) [
  | inl t ↦ rw t ((λ y m. u.0 y (In-filter_back p y xs m).0), up_filter p xs u.1)
  | inr t ↦ rw t (up_filter p xs u.1)
]

pub kept_rises : (p : ℕ → Bool) (n : ℕ) → IsStrictlyIncreasing (filter p (places n))
kept_rises p n = IsStrictlyIncreasing-filter p (places n) (λ k l.
    let h = length-range_with_len 0 n in
    let here = get_or-range_with_len 0 n k 0 (omega (arith, h, l)) in
    let next = get_or-range_with_len 0 n (k + 1) 0 (omega (arith, h, l)) in
    omega (arith, here, next))

pub or_turned : (a b : Bool) → (a || b) ≡ (b || a)
or_turned true true = refl
or_turned true false = refl
or_turned false true = refl
or_turned false false = refl

pub or_grouped : (a b c : Bool) → (a || (b || c)) ≡ ((a || b) || c)
or_grouped true b c = refl
or_grouped false b c = refl

or_again : (a b : Bool) → (a || b) ≡ ((a || b) || a)
or_again true b = refl
or_again false true = refl
or_again false false = refl

pub has-with_place : (p : ℕ) (xs : List ℕ) (x : ℕ) → has (with_place p xs) x ≡ (has xs x || eqb p x)
has-with_place p [] x = or_turned (eqb p x) false
has-with_place p (y ∷ ys) x = elim (cases_lt y p) [
  | inl l ↦ rw (lt-ltb y p l, has-with_place p ys x) (or_grouped (eqb y x) (has ys x) (eqb p x))
  | inr g ↦ elim (cases_eq y p) [
    | inl e ↦ rw (le-ltb y p g, eq-eqb y p e, e) (or_again (eqb p x) (has ys x))
    | inr d ↦ rw (le-ltb y p g, ne_eqb y p d) (or_turned (eqb p x) (eqb y x || has ys x))
  ]
]

pub up_with_place : (p : ℕ) (xs : List ℕ) → Up xs → Up (with_place p xs)
up_with_place p [] u = ((λ y m. absurd m), tt)
up_with_place p (y ∷ ys) u = elim (cases_lt y p) [
  | inl l ↦ rw (lt-ltb y p l) (
    (λ z m. elim (or_cases (has ys z) (eqb p z) (sym (has-with_place p ys z) ∙ has_if_in (with_place p ys) z m)) [
      | inl h ↦ u.0 z (in_if_has ys z h)
      | inr e ↦ (let q = eqb-true p z e in less y z (omega arith))
    ]),
    up_with_place p ys u.1,
  )
  | inr g ↦ elim (cases_eq y p) [
    | inl e ↦ rw (le-ltb y p g, eq-eqb y p e) u
    | inr d ↦ rw (le-ltb y p g, ne_eqb y p d) (
      (λ z m. elim m [
        | inl e ↦ less p z (omega arith)
        | inr r ↦ (let l = below_from_less y z (u.0 z r) in less p z (omega arith))
      ]),
      u,
    )
  ]
]

pub has-with_all : (xs ys : List ℕ) (x : ℕ) → has (with_places xs ys) x ≡ (has xs x || has ys x)
has-with_all xs [] x = or_turned false (has xs x)
has-with_all xs (y ∷ ys) x = has-with_all (with_place y xs) ys x ∙ rw (has-with_place y xs x) (sym (or_grouped (has xs x) (eqb y x) (has ys x)))

pub up_with_all : (xs ys : List ℕ) → Up xs → Up (with_places xs ys)
up_with_all xs [] u = u
up_with_all xs (y ∷ ys) u = up_with_all (with_place y xs) ys (up_with_place y xs u)

pub with_those-filter : (test : ℕ → Bool) (set xs : List ℕ) → with_those test set xs ≡ with_places set (filter test xs)
with_those-filter test set [] = refl
with_those-filter test set (x ∷ xs) = elim (cases_Bool (test x)) [
  | inl t ↦ rw t (with_those-filter test (with_place x set) xs)
  | inr t ↦ rw t (with_those-filter test set xs)
]

-- what a rising list has of those that pass a test
pub those_kept : (test : ℕ → Bool) (xs : List ℕ) → Up xs → with_those test [] xs ≡ filter test xs
those_kept test xs u = with_those-filter test [] xs ∙ same_set (with_places [] (filter test xs)) (filter test xs) (up_with_all [] (filter test xs) tt) (up_filter test xs u) (λ x. has-with_all [] (filter test xs) x)

pub has-kept : (p : ℕ → Bool) (xs : List ℕ) (x : ℕ) → has (filter p xs) x ≡ (has xs x && p x)
has-kept p xs x = same_answer (has (filter p xs) x) (has xs x && p x)
    (λ e. let m = In-filter_back p x xs (in_if_has (filter p xs) x e) in and_from (has xs x) (p x) (has_if_in xs x m.0) m.1)
    (λ e. let h = and_parts (has xs x) (p x) e in has_if_in (filter p xs) x (In-filter p x xs (in_if_has xs x h.0) h.1))

-- ---- the places of words

pub past : (w : List ℕ) (x : ℕ) → 64 * length w ≤ x → has_bit w x ≡ false
unfolding has_bit
past w x l = rw (get_or_past w (x / 64) 0 (omega arith), bit_at-zero (x % 64)) refl

pub has-places_in : (w : List ℕ) (x : ℕ) → has (places_in w) x ≡ has_bit w x
unfolding places_in
has-places_in w x = elim (cases_lt x (64 * length w)) [
  | inl l ↦ has-filter (has_bit w) (64 * length w) x l
  | inr l ↦ has-filter_past (has_bit w) (64 * length w) x l ∙ sym (past w x l)
]

pub up_places_in : (w : List ℕ) → Up (places_in w)
unfolding places_in
up_places_in w = up_filter (has_bit w) (places (64 * length w)) (up_range 0 (64 * length w))

pub places_in_rises : (w : List ℕ) → IsStrictlyIncreasing (places_in w)
unfolding places_in
places_in_rises w = kept_rises (has_bit w) (64 * length w)

pub places_in_none : places_in [] ≡ []
unfolding places_in
places_in_none = refl

-- ---- bits

bits_and : (p q : ℕ) → p < 2 → q < 2 → eqb (min p q) 1 ≡ (eqb p 1 && eqb q 1)
bits_and zero zero l m = refl
bits_and zero (suc zero) l m = refl
bits_and zero (suc (suc q)) l m = absurd (omega arith)
bits_and (suc zero) zero l m = refl
bits_and (suc zero) (suc zero) l m = refl
bits_and (suc zero) (suc (suc q)) l m = absurd (omega arith)
bits_and (suc (suc p)) q l m = absurd (omega arith)

bits_or : (p q : ℕ) → p < 2 → q < 2 → eqb (max p q) 1 ≡ (eqb p 1 || eqb q 1)
bits_or zero zero l m = refl
bits_or zero (suc zero) l m = refl
bits_or zero (suc (suc q)) l m = absurd (omega arith)
bits_or (suc zero) zero l m = refl
bits_or (suc zero) (suc zero) l m = refl
bits_or (suc zero) (suc (suc q)) l m = absurd (omega arith)
bits_or (suc (suc p)) q l m = absurd (omega arith)

bits_minus : (p q : ℕ) → p < 2 → q < 2 → eqb ((p + min p q) % 2) 1 ≡ (eqb p 1 && not (eqb q 1))
bits_minus zero zero l m = refl
bits_minus zero (suc zero) l m = refl
bits_minus zero (suc (suc q)) l m = absurd (omega arith)
bits_minus (suc zero) zero l m = refl
bits_minus (suc zero) (suc zero) l m = refl
bits_minus (suc zero) (suc (suc q)) l m = absurd (omega arith)
bits_minus (suc (suc p)) q l m = absurd (omega arith)

pub and_bits : (p q i : ℕ) → eqb (bit_at (bit_and p q) i) 1 ≡ (eqb (bit_at p i) 1 && eqb (bit_at q i) 1)
and_bits p q i = ap (λ v. eqb v 1) (bit_at_and p q i) ∙ bits_and (bit_at p i) (bit_at q i) (bit_at-lt p i) (bit_at-lt q i)

pub or_bits : (p q i : ℕ) → eqb (bit_at (bit_or p q) i) 1 ≡ (eqb (bit_at p i) 1 || eqb (bit_at q i) 1)
or_bits p q i = ap (λ v. eqb v 1) (bit_at_or p q i) ∙ bits_or (bit_at p i) (bit_at q i) (bit_at-lt p i) (bit_at-lt q i)

-- what words have that are made of two others word by word
pub bits_of_both : (w a b : List ℕ) → ((k : ℕ) → get_or w k 0 ≡ bit_and (get_or a k 0) (get_or b k 0)) → (x : ℕ) → has_bit w x ≡ (has_bit a x && has_bit b x)
unfolding has_bit
bits_of_both w a b e x = ap (λ v. eqb (bit_at v (x % 64)) 1) (e (x / 64)) ∙ and_bits (get_or a (x / 64) 0) (get_or b (x / 64) 0) (x % 64)

pub bits_of_either : (w a b : List ℕ) → ((k : ℕ) → get_or w k 0 ≡ bit_or (get_or a k 0) (get_or b k 0)) → (x : ℕ) → has_bit w x ≡ (has_bit a x || has_bit b x)
unfolding has_bit
bits_of_either w a b e x = ap (λ v. eqb (bit_at v (x % 64)) 1) (e (x / 64)) ∙ or_bits (get_or a (x / 64) 0) (get_or b (x / 64) 0) (x % 64)

pub bits_of_minus : (w a b : List ℕ) → ((k : ℕ) → get_or w k 0 ≡ bit_xor (get_or a k 0) (bit_and (get_or a k 0) (get_or b k 0))) → (x : ℕ) → has_bit w x ≡ (has_bit a x && not (has_bit b x))
unfolding has_bit
bits_of_minus w a b e x =
    let p = get_or a (x / 64) 0 in
    let q = get_or b (x / 64) 0 in
    let i = x % 64 in
    ap (λ v. eqb (bit_at v i) 1) (e (x / 64))
    ∙ ap (λ v. eqb v 1) (bit_at_xor p (bit_and p q) i)
    ∙ ap (λ v. eqb ((bit_at p i + v) % 2) 1) (bit_at_and p q i)
    ∙ bits_minus (bit_at p i) (bit_at q i) (bit_at-lt p i) (bit_at-lt q i)

-- ---- what the functions of the words give

-- a place put in
module _ (w u : List ℕ) (p v : ℕ) (same : (k : ℕ) → get_or u k 0 ≡ get_or w k 0) (inside : p / 64 < length u) (here : v ≡ get_or u (p / 64) 0) where
  abbrev put : List ℕ
  put = set u (p / 64) (bit_or v (1 * 2 ^ (p % 64) % 2 ^ 64))

  put_bit : (x : ℕ) → has_bit put x ≡ (has_bit w x || eqb p x)
  unfolding has_bit
  put_bit x = elim (cases_eq (x / 64) (p / 64)) [
    | inl e ↦
        (let now : get_or put (x / 64) 0 ≡ bit_or v (1 * 2 ^ (p % 64) % 2 ^ 64) = ap (λ k. get_or put k 0) e ∙ get_or-set_same u (p / 64) (bit_or v (1 * 2 ^ (p % 64) % 2 ^ 64)) 0 inside in
        let was : v ≡ get_or w (x / 64) 0 = here ∙ same (p / 64) ∙ ap (λ k. get_or w k 0) (sym e) in
        elim (cases_eq (x % 64) (p % 64)) [
          | inl f ↦
              (let q : p ≡ x = omega arith in
              let one : bit_at (get_or put (x / 64) 0) (x % 64) ≡ 1 = ap (λ n. bit_at n (x % 64)) now ∙ ap (bit_at (bit_or v (1 * 2 ^ (p % 64) % 2 ^ 64))) f ∙ bit_at_set_same w64 v (p % 64) (omega arith) in
              eq-eqb (bit_at (get_or put (x / 64) 0) (x % 64)) 1 one ∙ sym (or_right (eqb (bit_at (get_or w (x / 64) 0) (x % 64)) 1) (eqb p x) (eq-eqb p x q)))
          | inr f ↦
              (let q : eqb p x ≡ false = ne_eqb p x (λ (e : p ≡ x). f (omega arith)) in
              ap (λ n. eqb (bit_at n (x % 64)) 1) now
              ∙ ap (λ n. eqb n 1) (bit_at_set_other w64 v (p % 64) (omega arith) (x % 64) f)
              ∙ ap (λ n. eqb (bit_at n (x % 64)) 1) was
              ∙ or_turned false (eqb (bit_at (get_or w (x / 64) 0) (x % 64)) 1)
              ∙ ap (λ b. eqb (bit_at (get_or w (x / 64) 0) (x % 64)) 1 || b) (sym q))
        ])
    | inr d ↦
        (let q : eqb p x ≡ false = ne_eqb p x (λ (e : p ≡ x). d (omega arith)) in
        ap (λ n. eqb (bit_at n (x % 64)) 1) (get_or-set_other u (p / 64) (x / 64) (bit_or v (1 * 2 ^ (p % 64) % 2 ^ 64)) 0 d ∙ same (x / 64))
        ∙ or_turned false (eqb (bit_at (get_or w (x / 64) 0) (x % 64)) 1)
        ∙ ap (λ b. eqb (bit_at (get_or w (x / 64) 0) (x % 64)) 1 || b) (sym q))
  ]

  pub put_places_in : places_in put ≡ with_place p (places_in w)
  put_places_in = same_set (places_in put) (with_place p (places_in w)) (up_places_in put) (up_with_place p (places_in w) (up_places_in w))
      (λ x. has-places_in put x ∙ put_bit x ∙ sym (has-with_place p (places_in w) x ∙ ap (λ b. b || eqb p x) (has-places_in w x)))

-- each word of a in that of b
module _ (a b : List ℕ) where
  pub within_yes : ((k : ℕ) → k < length a → bit_and (get_or a k 0) (get_or b k 0) ≡ get_or a k 0) → true ≡ is_within (places_in a) (places_in b)
  within_yes f =
      let e : (x : ℕ) → has_bit a x ≡ (has_bit a x && has_bit b x) = bits_of_both a a b (λ k. elim (cases_lt k (length a)) [
        | inl l ↦ sym (f k l)
        | inr g ↦ (let z = get_or_past a k 0 g in rw z refl)
      ]) in
      sym (all_from (has (places_in b)) (places_in a) (λ x m.
      has-places_in b x ∙ (and_parts (has_bit a x) (has_bit b x) (sym (e x) ∙ sym (has-places_in a x) ∙ has_if_in (places_in a) x m)).1))

  bit_here : (k i : ℕ) → i < 64 → (w : List ℕ) → has_bit w (k * 64 + i) ≡ eqb (bit_at (get_or w k 0) i) 1
  unfolding has_bit
  bit_here k i l w =
      let p : (k * 64 + i) / 64 ≡ k = omega arith in
      let q : (k * 64 + i) % 64 ≡ i = omega arith in
      rw (p, q) refl

  pub within_no : (k : ℕ) → get_or a k 0 < 2 ^ 64 → (bit_and (get_or a k 0) (get_or b k 0) ≡ get_or a k 0 → ⊥) → false ≡ is_within (places_in a) (places_in b)
  within_no k small d = sym (false_from_ne_true (is_within (places_in a) (places_in b)) (λ e. d (same_from_bits (bit_and (get_or a k 0) (get_or b k 0)) (get_or a k 0) (λ i.
      let p = get_or a k 0 in
      let q = get_or b k 0 in
      bit_at_and p q i ∙ (elim (cases_lt i 64) [
        | inr g ↦ (let z = bit_at_above p 64 i small g in omega arith)
        | inl l ↦ elim (cases_eq (bit_at p i) 1) [
          | inr n ↦ (let s = bit_at-lt p i in omega arith)
          | inl o ↦
              (let x : ℕ = k * 64 + i in
              let here : has (places_in a) x ≡ true = has-places_in a x ∙ bit_here k i l a ∙ eq-eqb (bit_at p i) 1 o in
              let there : has (places_in b) x ≡ true = all_back (has (places_in b)) (places_in a) e x (in_if_has (places_in a) x here) in
              let r : bit_at q i ≡ 1 = eqb-true (bit_at q i) 1 (sym (bit_here k i l b) ∙ sym (has-places_in b x) ∙ there) in
              omega arith)
        ]
      ])))))

  pub intersects_no : ((k : ℕ) → k < length a → bit_and (get_or a k 0) (get_or b k 0) ≡ 0) → false ≡ list_any (has (places_in b)) (places_in a)
  intersects_no f =
      let e : (x : ℕ) → false ≡ (has_bit a x && has_bit b x) = λ x. sym (past [] x (omega arith)) ∙ bits_of_both [] a b (λ k. elim (cases_lt k (length a)) [
        | inl l ↦ sym (f k l)
        | inr g ↦ (let z = get_or_past a k 0 g in rw z refl)
      ]) x in
      sym (false_from_ne_true (list_any (has (places_in b)) (places_in a)) (λ t.
      let c = any_back (has (places_in b)) (places_in a) t in
      true≢false (sym (and_from (has_bit a c.0) (has_bit b c.0) (sym (has-places_in a c.0) ∙ has_if_in (places_in a) c.0 c.1) (sym (has-places_in b c.0) ∙ c.2)) ∙ sym (e c.0))))

  pub intersects_yes : (k : ℕ) → get_or a k 0 < 2 ^ 64 → (bit_and (get_or a k 0) (get_or b k 0) ≡ 0 → ⊥) → true ≡ list_any (has (places_in b)) (places_in a)
  intersects_yes k small d = sym (true_from_ne_false (list_any (has (places_in b)) (places_in a)) (λ e. d (same_from_bits (bit_and (get_or a k 0) (get_or b k 0)) 0 (λ i.
      let p = get_or a k 0 in
      let q = get_or b k 0 in
      bit_at_and p q i ∙ (elim (cases_lt i 64) [
        | inr g ↦ (let z = bit_at_above p 64 i small g in let y = bit_at-zero i in omega arith)
        | inl l ↦ elim (cases_eq (bit_at p i) 1) [
          | inr n ↦ (let s = bit_at-lt p i in let y = bit_at-zero i in omega arith)
          | inl o ↦
              (let x : ℕ = k * 64 + i in
              let here : has (places_in a) x ≡ true = has-places_in a x ∙ bit_here k i l a ∙ eq-eqb (bit_at p i) 1 o in
              let s = bit_at-lt q i in
              let y = bit_at-zero i in
              let n : bit_at q i ≡ 1 → ⊥ = λ r. true≢false (sym (any_from (has (places_in b)) x (places_in a) (in_if_has (places_in a) x here) (has-places_in b x ∙ bit_here k i l b ∙ eq-eqb (bit_at q i) 1 r)) ∙ e) in
              elim (cases_eq (bit_at q i) 1) [ inl r ↦ absurd (n r) | inr r ↦ omega arith ])
        ]
      ])))))

-- words made one by one
mapped : (f : ℕ → ℕ) (n k : ℕ) → (n ≤ k → f k ≡ 0) → get_or (map f (places n)) k 0 ≡ f k
mapped f n k z = elim (cases_lt k n) [
  | inl l ↦ get_or-map-range_with_len f 0 n k k 0 l (omega arith)
  | inr g ↦ get_or_past (map f (places n)) k 0 (let h = length-map-range_with_len f 0 n in omega arith) ∙ sym (z g)
]

-- nothing is in common past the shorter one
pub none_common : (a b : List ℕ) (k : ℕ) → min (length a) (length b) ≤ k → common_word a b k ≡ 0
none_common a b k g = elim (cases_lt k (length a)) [
  | inl l ↦ (let z = get_or_past b k 0 (omega arith) in ap (bit_and (get_or a k 0)) z ∙ and_zero_r (get_or a k 0))
  | inr p ↦ (let z = get_or_past a k 0 p in rw z refl)
]

-- the words of the places of both
abbrev pub common_words : List ℕ → List ℕ → List ℕ
common_words a b = map (common_word a b) (places (min (length a) (length b)))

pub length-common_words : (a b : List ℕ) → length (common_words a b) ≡ min (length a) (length b)
length-common_words a b = length-map-range_with_len (common_word a b) 0 (min (length a) (length b))

pub common_at : (a b : List ℕ) (k : ℕ) → get_or (common_words a b) k 0 ≡ common_word a b k
common_at a b k = mapped (common_word a b) (min (length a) (length b)) k (none_common a b k)

module _ (a b w : List ℕ) where
  pub places_in_both : ((k : ℕ) → get_or w k 0 ≡ common_word a b k) → places_in w ≡ filter (has (places_in b)) (places_in a)
  places_in_both e =
      same_set (places_in w) (filter (has (places_in b)) (places_in a)) (up_places_in w) (up_filter (has (places_in b)) (places_in a) (up_places_in a))
      (λ x. has-places_in w x ∙ bits_of_both w a b e x ∙ sym (has-kept (has (places_in b)) (places_in a) x ∙ (λ i. has-places_in a x i && has-places_in b x i)))

  pub places_in_minus : ((k : ℕ) → get_or w k 0 ≡ rest_word a b k) → places_in w ≡ filter (λ x. not (has (places_in b) x)) (places_in a)
  places_in_minus e =
      same_set (places_in w) (filter (λ x. not (has (places_in b) x)) (places_in a)) (up_places_in w) (up_filter (λ x. not (has (places_in b) x)) (places_in a) (up_places_in a))
      (λ x. has-places_in w x ∙ bits_of_minus w a b e x ∙ sym (has-kept (λ x. not (has (places_in b) x)) (places_in a) x ∙ (λ i. has-places_in a x i && not (has-places_in b x i))))

  pub places_in_joined : ((k : ℕ) → k < length b → get_or w k 0 ≡ bit_or (get_or a k 0) (get_or b k 0)) → ((k : ℕ) → length b ≤ k → get_or w k 0 ≡ get_or a k 0) → places_in w ≡ with_places (places_in a) (places_in b)
  places_in_joined f g =
      same_set (places_in w) (with_places (places_in a) (places_in b)) (up_places_in w) (up_with_all (places_in a) (places_in b) (up_places_in a))
      (λ x.
      has-places_in w x
      ∙ bits_of_either w a b (λ k. elim (cases_lt k (length b)) [
        | inl l ↦ f k l
        | inr r ↦ (let z = get_or_past b k 0 r in rw (z, or_zero_r (get_or a k 0)) (g k r))
      ]) x
      ∙ sym (has-with_all (places_in a) (places_in b) x ∙ (λ i. has-places_in a x i || has-places_in b x i)))

-- ---- what loops keep

-- the words below a place are joined, and the others are as they were, or those of the others
pub record JoinedBelow (first others words : List ℕ) (at : ℕ) : Type 0 where
  pub long : length words ≡ max (length first) (length others)
  pub joined : (k : ℕ) → k < at → get_or words k 0 ≡ bit_or (get_or first k 0) (get_or others k 0)
  pub rest : (k : ℕ) → at ≤ k → k < length first → get_or words k 0 ≡ get_or first k 0
  pub added : (k : ℕ) → length first ≤ k → get_or words k 0 ≡ get_or others k 0

module _ (first others words : List ℕ) (at : ℕ) where
  pub joined_more : (at < min (length first) (length others)) → JoinedBelow first others words at
      → (next : List ℕ) → next ≡ set words at (bit_or (get_or words at 0) (get_or others at 0)) → JoinedBelow first others next (at + 1)
  joined_more l h next n =
      let v : ℕ = bit_or (get_or words at 0) (get_or others at 0) in
      let inside : at < length words = let g = h.long in omega arith in
      let kept : (k : ℕ) → (k ≡ at → ⊥) → get_or next k 0 ≡ get_or words k 0 = λ k d. ap (λ (w : List ℕ). get_or w k 0) n ∙ get_or-set_other words at k v 0 d in
      record {
        long = ap length n ∙ length-set words at v ∙ h.long;
        joined = λ k b. elim (cases_eq k at) [
          | inl s ↦
              ap (λ (w : List ℕ). get_or w k 0) n
              ∙ ap (λ i. get_or (set words at v) i 0) s
              ∙ get_or-set_same words at v 0 inside
              ∙ ap (λ x. bit_or x (get_or others at 0)) (h.rest at (omega arith) (omega arith))
              ∙ ap (λ i. bit_or (get_or first i 0) (get_or others i 0)) (sym s)
          | inr d ↦ kept k d ∙ h.joined k (omega arith)
        ];
        rest = λ k a b. kept k (λ (s : k ≡ at). omega arith) ∙ h.rest k (omega arith) b;
        added = λ k a. kept k (λ (s : k ≡ at). omega arith) ∙ h.added k a;
      }

  pub joined_all : min (length first) (length others) ≤ at → JoinedBelow first others words at
      → ((k : ℕ) → k < length others → get_or words k 0 ≡ bit_or (get_or first k 0) (get_or others k 0)) × ((k : ℕ) → length others ≤ k → get_or words k 0 ≡ get_or first k 0)
  joined_all l h = (
    (λ k b. elim (cases_lt k at) [
      | inl a ↦ h.joined k a
      | inr a ↦ (let z = get_or_past first k 0 (omega arith) in h.added k (omega arith) ∙ ap (λ x. bit_or x (get_or others k 0)) (sym z))
    ]),
    (λ k b. elim (cases_lt k (length first)) [
      | inl a ↦ elim (cases_lt k at) [
        | inl c ↦ h.joined k c ∙ ap (bit_or (get_or first k 0)) (get_or_past others k 0 b) ∙ or_zero_r (get_or first k 0)
        | inr c ↦ h.rest k c a
      ]
      | inr a ↦ h.added k a ∙ get_or_past others k 0 b ∙ sym (get_or_past first k 0 a)
    ]),
  )

-- the second have all of the first from a word on
pub record NoRestFrom (first second : List ℕ) (len : ℕ) : Type 0 where
  pub within : len ≤ length first
  pub none : (k : ℕ) → len ≤ k → rest_word first second k ≡ 0

-- of as many of the first words as len, those below a place are made, and the others are as they were
pub record MadeBelow (made : ℕ → ℕ) (first words : List ℕ) (len at : ℕ) : Type 0 where
  pub long : length words ≡ len
  pub done : (k : ℕ) → k < at → get_or words k 0 ≡ made k
  pub rest : (k : ℕ) → at ≤ k → k < len → get_or words k 0 ≡ get_or first k 0

module _ (made : ℕ → ℕ) (first words : List ℕ) (len : ℕ) where
  pub made_all : (at : ℕ) → MadeBelow made first words len at → ((k : ℕ) → at ≤ k → k < len → get_or first k 0 ≡ made k) → ((k : ℕ) → len ≤ k → made k ≡ 0) → (k : ℕ) → get_or words k 0 ≡ made k
  made_all at h same none k = elim (cases_lt k at) [
    | inl l ↦ h.done k l
    | inr g ↦ elim (cases_lt k len) [
      | inl b ↦ h.rest k g b ∙ same k g b
      | inr p ↦ get_or_past words k 0 (let n = h.long in omega arith) ∙ sym (none k p)
    ]
  ]

pub all_rest_past : (first second : List ℕ) (k : ℕ) → length second ≤ k → get_or first k 0 ≡ rest_word first second k
all_rest_past first second k l =
    let z = get_or_past second k 0 l in
    sym (ap (λ v. bit_xor (get_or first k 0) (bit_and (get_or first k 0) v)) z ∙ ap (bit_xor (get_or first k 0)) (and_zero_r (get_or first k 0)) ∙ xor_zero_r (get_or first k 0))
