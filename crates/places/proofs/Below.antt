-- Words with those places of others that are below a bound.
use Rattle.std.proofs.Common.{◌≡◌, ℕ, ◌-◌, ◌*◌, ◌/◌, ◌%◌, ◌^◌, ◌<◌, ◌≤◌, Bool, true, false, ◌&&◌, ◌||◌, List, length, get_or, set, take, refl, sym, ap, ◌∙◌, inl, inr, arith, eqb}
use Rattle.std.specs.Prelude.{filter, bit_and, bit_or}
use Rattle.std.specs.Int.{bit_at}
use Rattle.std.proofs.lemmas.Bool.{cases_lt, cases_order, eq-eqb, ne_eqb, false_from_ne_true}
use Rattle.std.proofs.lemmas.List.{get_or_past, get_or-set_same, get_or-set_other, get_or-take, length-take}
use Rattle.std.proofs.lemmas.Nat.{shl_whole}
use Rattle.std.proofs.lemmas.Nat.Bits.{bit_at-zero, bit_at_ones, bit_at_ones_above}
use Rattle.places.specs.steps.PlaceSet.{has, places, with_places}
use Rattle.places.specs.steps.Words.{has_bit, places_in}
use Rattle.places.proofs.Places.{In-places, below, has_if_in, in_if_has}
use Rattle.places.proofs.WordPlaces.{same_set, up_places_in, up_filter, up_with_all, has-places_in, has-with_all, has-kept, or_bits, and_bits, or_turned, past}

-- the first places have those below
in_first : (n x : ℕ) → x < n → has (places n) x ≡ true
in_first n x l = has_if_in (places n) x (In-places n x l)

not_in_first : (n x : ℕ) → n ≤ x → has (places n) x ≡ false
not_in_first n x g = false_from_ne_true (has (places n) x) (λ t. let b = below n x (in_if_has (places n) x t) in absurd (omega arith))

or_none : (b : Bool) → (b || false) ≡ b
or_none b = or_turned b false

and_none : (b : Bool) → (b && false) ≡ false
and_none true = refl
and_none false = refl

and_all : (b : Bool) → (b && true) ≡ b
and_all true = refl
and_all false = refl

-- a bit of the words of the first places
low_bit : (n i : ℕ) → eqb (bit_at (2 ^ (n % 64) - 1) i) 1 ≡ has (places (n % 64)) i
low_bit n i = elim (cases_lt i (n % 64)) [
  | inl l ↦ eq-eqb (bit_at (2 ^ (n % 64) - 1) i) 1 (bit_at_ones (n % 64) i l) ∙ sym (in_first (n % 64) i l)
  | inr g ↦ (let z = bit_at_ones_above (n % 64) i g in ne_eqb (bit_at (2 ^ (n % 64) - 1) i) 1 (λ e. omega arith)) ∙ sym (not_in_first (n % 64) i g)
]

pub mask_is : (n : ℕ) → 1 * 2 ^ (n % 64) % 2 ^ 64 - 1 ≡ 2 ^ (n % 64) - 1
mask_is n = let shifted : 1 * 2 ^ (n % 64) % 2 ^ 64 ≡ 1 * 2 ^ (n % 64) = shl_whole 1 1 (n % 64) 64 (omega arith) (omega arith) in omega (arith, shifted)

-- all of the words are below
pub all_below_bound : (others : List ℕ) (bound : ℕ) → length others ≤ bound / 64 → filter (has (places bound)) (places_in others) ≡ places_in others
all_below_bound others bound l = same_set (filter (has (places bound)) (places_in others)) (places_in others) (up_filter (has (places bound)) (places_in others) (up_places_in others)) (up_places_in others)
    (λ x. has-kept (has (places bound)) (places_in others) x ∙ elim (cases_lt x bound) [
      | inl b ↦ ap (λ c. has (places_in others) x && c) (in_first bound x b) ∙ and_all (has (places_in others) x)
      | inr g ↦ (let none = has-places_in others x ∙ past others x (omega arith) in rw none refl)
    ])

module _ (old others joined lent : List ℕ) (bound : ℕ)
    (j : places_in joined ≡ with_places (places_in old) (places_in (take (bound / 64) others)))
    (same : (k : ℕ) → get_or lent k 0 ≡ get_or joined k 0) (inside : bound / 64 < length lent) where
  abbrev at : ℕ
  at = bound / 64

  abbrev mask : ℕ
  mask = 2 ^ (bound % 64) - 1

  abbrev put : List ℕ
  put = set lent at (bit_or (get_or lent at 0) (bit_and (get_or others at 0) mask))

  joined_bit : (x : ℕ) → has_bit joined x ≡ (has_bit old x || has_bit (take at others) x)
  joined_bit x =
      sym (has-places_in joined x)
      ∙ ap (λ (l : List ℕ). has l x) j
      ∙ has-with_all (places_in old) (places_in (take at others)) x
      ∙ (λ i. has-places_in old x i || has-places_in (take at others) x i)

  front_bit : (x : ℕ) → x / 64 < at → has_bit (take at others) x ≡ has_bit others x
  unfolding has_bit
  front_bit x l = ap (λ w. eqb (bit_at w (x % 64)) 1) (get_or-take at others (x / 64) 0 l)

  front_none : (x : ℕ) → at ≤ x / 64 → has_bit (take at others) x ≡ false
  unfolding has_bit
  front_none x g = rw (get_or_past (take at others) (x / 64) 0 (let t = length-take at others in omega arith), bit_at-zero (x % 64)) refl

  kept_bit : (x : ℕ) → (x / 64 ≡ at → ⊥) → has_bit put x ≡ has_bit joined x
  unfolding has_bit
  kept_bit x d = ap (λ w. eqb (bit_at w (x % 64)) 1) (get_or-set_other lent at (x / 64) (bit_or (get_or lent at 0) (bit_and (get_or others at 0) mask)) 0 d ∙ same (x / 64))

  last_bit : (x : ℕ) → x / 64 ≡ at → has_bit put x ≡ (has_bit joined x || (has_bit others x && has (places (bound % 64)) (x % 64)))
  unfolding has_bit
  last_bit x e =
      let i = x % 64 in
      ap (λ k. eqb (bit_at (get_or put k 0) i) 1) e
      ∙ ap (λ w. eqb (bit_at w i) 1) (get_or-set_same lent at (bit_or (get_or lent at 0) (bit_and (get_or others at 0) mask)) 0 inside)
      ∙ or_bits (get_or lent at 0) (bit_and (get_or others at 0) mask) i
      ∙ (λ t. eqb (bit_at (same at t) i) 1 || and_bits (get_or others at 0) mask i t)
      ∙ (λ t. eqb (bit_at (get_or joined (sym e t) 0) i) 1 || (eqb (bit_at (get_or others (sym e t) 0) i) 1 && low_bit bound i t))

  put_bit : (x : ℕ) → has_bit put x ≡ (has_bit old x || (has_bit others x && has (places bound) x))
  put_bit x = elim (cases_order (x / 64) at) [
    | inl e ↦
        last_bit x e
        ∙ ap (λ b. b || (has_bit others x && has (places (bound % 64)) (x % 64))) (joined_bit x ∙ ap (λ b. has_bit old x || b) (front_none x (omega arith)) ∙ or_none (has_bit old x))
        ∙ ap (λ b. has_bit old x || (has_bit others x && b)) (elim (cases_lt x bound) [
          | inl l ↦ in_first (bound % 64) (x % 64) (omega arith) ∙ sym (in_first bound x l)
          | inr g ↦ not_in_first (bound % 64) (x % 64) (omega arith) ∙ sym (not_in_first bound x g)
        ])
    | inr c ↦ elim c [
      | inl l ↦
          kept_bit x (λ e. omega arith)
          ∙ joined_bit x
          ∙ ap (λ b. has_bit old x || b) (front_bit x l ∙ sym (and_all (has_bit others x)) ∙ ap (λ b. has_bit others x && b) (sym (in_first bound x (omega arith))))
      | inr g ↦
          kept_bit x (λ e. omega arith)
          ∙ joined_bit x
          ∙ ap (λ b. has_bit old x || b) (front_none x (omega arith) ∙ sym (and_none (has_bit others x)) ∙ ap (λ b. has_bit others x && b) (sym (not_in_first bound x (omega arith))))
    ]
  ]

  pub put_below : places_in put ≡ with_places (places_in old) (filter (has (places bound)) (places_in others))
  put_below = same_set (places_in put) (with_places (places_in old) (filter (has (places bound)) (places_in others)))
      (up_places_in put)
      (up_with_all (places_in old) (filter (has (places bound)) (places_in others)) (up_places_in old))
      (λ x.
      has-places_in put x
      ∙ put_bit x
      ∙ sym (has-with_all (places_in old) (filter (has (places bound)) (places_in others)) x
      ∙ (λ i. has-places_in old x i || has-kept (has (places bound)) (places_in others) x i)
      ∙ ap (λ b. has_bit old x || (b && has (places bound) x)) (has-places_in others x)))
