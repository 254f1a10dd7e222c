-- The places of words word by word: how many they are, a list of them, and the words of the first places.
use Rattle.std.proofs.Common.{◌≡◌, ℕ, zero, suc, ◌+◌, ◌-◌, ◌*◌, cond, replicate, take, ◌||◌, ◌/◌, ◌%◌, ◌^◌, ◌<◌, ◌≤◌, Bool, true, List, [], ◌∷◌, ◌++◌, length, get_or, map, refl, sym, ap, ◌∙◌, inl, inr, arith, eqb, w64}
use Rattle.std.specs.Prelude.{filter, bit_and, count_ones, All}
use Rattle.std.specs.List.{AllClonesOf, AppendsClonesOf}
use Rattle.std.specs.Int.{bit_at, bit_not, trailing_zeros}
use Rattle.std.specs.Int.Count.{ones}
use Rattle.std.proofs.lemmas.Bool.{cases_Bool, cases_eq, cases_lt, eq-eqb, eqb-true, ne_eqb, or_left, false_from_ne_true}
use Rattle.std.proofs.lemmas.List.{append-nil, append_assoc, map_push, length-append, length-map, get_or_past, get_or_append_left, get_or-replicate, get_or_at, length-replicate, take_all}
use Rattle.std.proofs.lemmas.Nat.{ones_cat, and_le_l, shl_whole}
use Rattle.std.proofs.lemmas.Nat.Bits.{bit_at_lowest, bit_at-suc, bit_at-zero, bit_at-trailing_zeros, bit_at_clear_same, bit_at_clear_other, bit_at_ones, bit_at_ones_above}
use Rattle.rules.proofs.Lists.{In-filter_back, filter_agree}
use Rattle.places.specs.steps.PlaceSet.{has, places}
use Rattle.places.specs.steps.Words.{has_bit, places_in}
use Rattle.places.proofs.Places.{In-places, below, has_if_in, in_if_has, has-filter, has-filter_past, kept_next, left_next, all_in}
use Rattle.places.proofs.WordPlaces.{Up, same_set, up_range, up_filter, less, has-places_in, up_places_in}

-- ---- what a test keeps of some places after the first ones

pub kept_block : (p : ℕ → Bool) (n d : ℕ) → filter p (places (n + d)) ≡ filter p (places n) ++ map (λ i. n + i) (filter (λ i. p (n + i)) (places d))
kept_block p n zero = (let e : n + 0 ≡ n = omega arith in ap (λ m. filter p (places m)) e) ∙ sym (append-nil (filter p (places n)))
kept_block p n (suc d) =
    let q : ℕ → Bool = λ i. p (n + i) in
    let shift : ℕ → ℕ = λ i. n + i in
    let one : n + suc d ≡ n + d + 1 = omega arith in
    let next : suc d ≡ d + 1 = omega arith in
    ap (λ m. filter p (places m)) one ∙ (elim (cases_Bool (p (n + d))) [
      | inl t ↦
          kept_next p (n + d) t
          ∙ ap (λ (l : List ℕ). l ++ (n + d) ∷ []) (kept_block p n d)
          ∙ append_assoc (filter p (places n)) (map shift (filter q (places d))) ((n + d) ∷ [])
          ∙ ap (λ (l : List ℕ). filter p (places n) ++ l) (sym (map_push shift (filter q (places d)) d) ∙ ap (map shift) (sym (kept_next q d t)))
          ∙ ap (λ m. filter p (places n) ++ map shift (filter q (places m))) (sym next)
      | inr t ↦
          left_next p (n + d) t
          ∙ kept_block p n d
          ∙ ap (λ (l : List ℕ). filter p (places n) ++ map shift l) (sym (left_next q d t))
          ∙ ap (λ m. filter p (places n) ++ map shift (filter q (places m))) (sym next)
    ])

-- ---- the places of one word

abbrev pub bit : ℕ → ℕ → Bool
bit w i = eqb (bit_at w i) 1

unfoldable pub bits_of : ℕ → List ℕ
bits_of w = filter (bit w) (places 64)

pub word_places : (words : List ℕ) (k : ℕ) → filter (has_bit words) (places (64 * (k + 1))) ≡ filter (has_bit words) (places (64 * k)) ++ map (λ i. 64 * k + i) (bits_of (get_or words k 0))
unfolding has_bit bits_of
word_places words k =
    (let e : 64 * (k + 1) ≡ 64 * k + 64 = omega arith in ap (λ m. filter (has_bit words) (places m)) e)
    ∙ kept_block (has_bit words) (64 * k) 64
    ∙ ap (λ (l : List ℕ). filter (has_bit words) (places (64 * k)) ++ map (λ i. 64 * k + i) l)
    (filter_agree (λ i. has_bit words (64 * k + i)) (bit (get_or words k 0)) (places 64) (λ i m.
    let l = below 64 i m in
    let p : (64 * k + i) / 64 ≡ k = omega arith in
    let q : (64 * k + i) % 64 ≡ i = omega arith in
    rw (p, q) refl))

-- ---- how many

abbrev single : Bool → List ℕ
single b = cond b (0 ∷ []) []

one_bit : (b : Bool) (r : ℕ) → r < 2 → b ≡ eqb r 1 → length (single b) ≡ ones r
unfolding count_ones
one_bit b zero l e = rw e refl
one_bit b (suc zero) l e = rw e refl
one_bit b (suc (suc r)) l e = absurd (omega arith)

count_none : (w : ℕ) → w ≡ 0 → 0 ≡ ones w
unfolding count_ones
count_none w e = rw e refl

count_below : (n w : ℕ) → w < 2 ^ n → length (filter (bit w) (places n)) ≡ ones w
count_below zero w l = count_none w (omega arith)
count_below (suc n) w l =
    let half : w / 2 < 2 ^ n = omega arith in
    let e : suc n ≡ 1 + n = omega arith in
    let rest : filter (λ i. bit w (1 + i)) (places n) ≡ filter (bit (w / 2)) (places n) = filter_agree (λ i. bit w (1 + i)) (bit (w / 2)) (places n) (λ i m. (let f : 1 + i ≡ suc i = omega arith in ap (λ j. bit w j) f) ∙ ap (λ v. eqb v 1) (bit_at-suc w i)) in
    ap (λ m. length (filter (bit w) (places m))) e
    ∙ ap length (kept_block (bit w) 1 n)
    ∙ length-append (filter (bit w) (places 1)) (map (λ i. 1 + i) (filter (λ i. bit w (1 + i)) (places n)))
    ∙ ap (λ m. length (filter (bit w) (places 1)) + m) (length-map (filter (λ i. bit w (1 + i)) (places n)) (λ i. 1 + i) ∙ ap length rest ∙ count_below n (w / 2) half)
    ∙ ap (λ m. m + ones (w / 2)) (one_bit (bit w 0) (w % 2) (omega arith) (ap (λ v. eqb v 1) (bit_at_lowest w)))
    ∙ (let cat = ones_cat 1 (w / 2) (w % 2) (omega arith) in
    let whole : w / 2 * 2 ^ 1 + w % 2 ≡ w = omega arith in
    let all : ones (w / 2 * 2 ^ 1 + w % 2) ≡ ones w = ap ones whole in
    omega (arith, cat, all))

pub count_word : (w : ℕ) → w < 2 ^ 64 → length (bits_of w) ≡ ones w
unfolding bits_of
count_word w l = count_below 64 w l

pub count_more : (words : List ℕ) (k count : ℕ) → count ≡ length (filter (has_bit words) (places (64 * k))) → get_or words k 0 < 2 ^ 64
    → count + ones (get_or words k 0) ≡ length (filter (has_bit words) (places (64 * (k + 1))))
count_more words k count e small =
    let w = get_or words k 0 in
    let long = ap length (word_places words k) ∙ length-append (filter (has_bit words) (places (64 * k))) (map (λ i. 64 * k + i) (bits_of w)) in
    let n = length-map (bits_of w) (λ i. 64 * k + i) ∙ count_word w small in
    omega (arith, e, long, n)

pub count_places_in : (words : List ℕ) (k count : ℕ) → k ≡ length words → count ≡ length (filter (has_bit words) (places (64 * k))) → count ≡ length (places_in words)
unfolding places_in
count_places_in words k count e f = f ∙ ap (λ m. length (filter (has_bit words) (places (64 * m)))) e

-- ---- the lowest place of a word

abbrev pub next_of : ℕ → ℕ
next_of w = bit_and w (bit_not w64 (1 * 2 ^ trailing_zeros w64 w % 2 ^ 64))

module _ (w : ℕ) (some : 0 < w) (small : w < 2 ^ 64) where
  abbrev low : ℕ
  low = trailing_zeros w64 w

  facts : (low < 64) × (bit_at w low ≡ 1) × ((i : ℕ) → i < low → bit_at w i ≡ 0)
  facts = bit_at-trailing_zeros w64 w some small

  gone : bit_at (next_of w) low ≡ 0
  gone = bit_at_clear_same w64 w low facts.0

  others : (i : ℕ) → i < 64 → (i ≡ low → ⊥) → bit_at (next_of w) i ≡ bit_at w i
  others i l d = bit_at_clear_other w64 w low facts.0 i l d

  pub next_smaller : next_of w < w
  next_smaller = elim (cases_eq (next_of w) w) [
    | inl e ↦ (let both : bit_at (next_of w) low ≡ bit_at w low = ap (λ v. bit_at v low) e in let o = facts.1 in let g = gone in absurd (omega arith))
    | inr d ↦ (let l = and_le_l w (bit_not w64 (1 * 2 ^ low % 2 ^ 64)) in omega arith)
  ]

  kept_is : (x : ℕ) → x < 64 → bit w x ≡ (eqb low x || bit (next_of w) x)
  kept_is x l = elim (cases_eq low x) [
    | inl e ↦ eq-eqb (bit_at w x) 1 (ap (bit_at w) (sym e) ∙ facts.1) ∙ sym (or_left (eqb low x) (bit (next_of w) x) (eq-eqb low x e))
    | inr d ↦ ap (λ v. eqb v 1) (sym (others x l (λ e. d (sym e)))) ∙ ap (λ b. b || bit (next_of w) x) (sym (ne_eqb low x d))
  ]

  has_is : (x : ℕ) → has (bits_of w) x ≡ has (low ∷ bits_of (next_of w)) x
  unfolding bits_of
  has_is x = elim (cases_lt x 64) [
    | inl l ↦ has-filter (bit w) 64 x l ∙ kept_is x l ∙ ap (λ b. eqb low x || b) (sym (has-filter (bit (next_of w)) 64 x l))
    | inr g ↦
        (let f = facts.0 in
        has-filter_past (bit w) 64 x g
        ∙ sym (has-filter_past (bit (next_of w)) 64 x g)
        ∙ ap (λ b. b || has (bits_of (next_of w)) x) (sym (ne_eqb low x (λ (e : low ≡ x). omega arith))))
  ]

  up_is : Up (low ∷ bits_of (next_of w))
  unfolding bits_of
  up_is = (
    (λ y m.
        let h = In-filter_back (bit (next_of w)) y (places 64) m in
        let l : y < 64 = below 64 y h.0 in
        let o : bit_at (next_of w) y ≡ 1 = eqb-true (bit_at (next_of w) y) 1 h.1 in
        less low y (elim (cases_lt low y) [
          | inl b ↦ b
          | inr g ↦ elim (cases_eq y low) [
            | inl e ↦ (let both : bit_at (next_of w) y ≡ bit_at (next_of w) low = ap (bit_at (next_of w)) e in let z = gone in absurd (omega arith))
            | inr d ↦ (let z = facts.2 y (omega arith) in let p = others y l d in absurd (omega arith))
          ]
        ])),
    up_filter (bit (next_of w)) (places 64) (up_range 0 64),
  )

  up_all : Up (bits_of w)
  unfolding bits_of
  up_all = up_filter (bit w) (places 64) (up_range 0 64)

  pub lowest_first : bits_of w ≡ low ∷ bits_of (next_of w)
  lowest_first = same_set (bits_of w) (low ∷ bits_of (next_of w)) up_all up_is has_is

pub bits_none : bits_of 0 ≡ []
unfolding bits_of
bits_none = refl

-- one place is put behind the others, out of a word
pub place_pushed : (k w : ℕ) (old new all : List ℕ) → 0 < w → w < 2 ^ 64 → new ≡ old ++ (k * 64 + trailing_zeros w64 w) ∷ []
    → old ++ map (λ i. 64 * k + i) (bits_of w) ≡ all → new ++ map (λ i. 64 * k + i) (bits_of (next_of w)) ≡ all
place_pushed k w old new all some small e f =
    let shift : ℕ → ℕ = λ i. 64 * k + i in
    let t : ℕ = trailing_zeros w64 w in
    let same : k * 64 + t ≡ shift t = omega arith in
    ap (λ (l : List ℕ). l ++ map shift (bits_of (next_of w))) (e ∙ ap (λ (x : ℕ). old ++ x ∷ []) same)
    ∙ append_assoc old (shift t ∷ []) (map shift (bits_of (next_of w)))
    ∙ ap (λ (l : List ℕ). old ++ map shift l) (sym (lowest_first w some small))
    ∙ f

pub word_begun : (words : List ℕ) (k : ℕ) (old : List ℕ) → old ≡ filter (has_bit words) (places (64 * k))
    → old ++ map (λ i. 64 * k + i) (bits_of (get_or words k 0)) ≡ filter (has_bit words) (places (64 * (k + 1)))
word_begun words k old e = ap (λ (l : List ℕ). l ++ map (λ i. 64 * k + i) (bits_of (get_or words k 0))) e ∙ sym (word_places words k)

pub word_done : (k w : ℕ) (old all : List ℕ) → w ≡ 0 → old ++ map (λ i. 64 * k + i) (bits_of w) ≡ all → old ≡ all
word_done k w old all e f =
    sym (append-nil old)
    ∙ ap (λ (l : List ℕ). old ++ map (λ i. 64 * k + i) l) (sym bits_none)
    ∙ ap (λ (v : ℕ). old ++ map (λ i. 64 * k + i) (bits_of v)) (sym e)
    ∙ f

pub all_places_in : (words : List ℕ) (k : ℕ) (list : List ℕ) → k ≡ length words → list ≡ filter (has_bit words) (places (64 * k)) → list ≡ places_in words
unfolding places_in
all_places_in words k list e f = f ∙ ap (λ m. filter (has_bit words) (places (64 * m))) e

-- ---- the lowest place of words

pub none_places_in : (words : List ℕ) → ((k : ℕ) → k < length words → get_or words k 0 ≡ 0) → places_in words ≡ []
unfolding has_bit
none_places_in words none = same_set (places_in words) [] (up_places_in words) tt (λ x. has-places_in words x ∙ (elim (cases_lt (x / 64) (length words)) [
  | inl l ↦ rw (none (x / 64) l, bit_at-zero (x % 64)) refl
  | inr g ↦ rw (get_or_past words (x / 64) 0 g, bit_at-zero (x % 64)) refl
]))

-- the lowest bit of a word is among the places of the words
lowest_there : (words : List ℕ) (at : ℕ) → 0 < get_or words at 0 → get_or words at 0 < 2 ^ 64 → has (places_in words) (at * 64 + trailing_zeros w64 (get_or words at 0)) ≡ true
unfolding has_bit
lowest_there words at some small =
    let w = get_or words at 0 in
    let facts = bit_at-trailing_zeros w64 w some small in
    let top = facts.0 in
    let p : (at * 64 + trailing_zeros w64 w) / 64 ≡ at = omega arith in
    let q : (at * 64 + trailing_zeros w64 w) % 64 ≡ trailing_zeros w64 w = omega arith in
    has-places_in words (at * 64 + trailing_zeros w64 w)
    ∙ (λ i. eqb (bit_at (get_or words (p i) 0) (q i)) 1)
    ∙ eq-eqb (bit_at w (trailing_zeros w64 w)) 1 facts.1

pub lowest_places_in : (words : List ℕ) (at : ℕ) → ((k : ℕ) → k < at → get_or words k 0 ≡ 0) → 0 < get_or words at 0 → get_or words at 0 < 2 ^ 64
    → let lowest = at * 64 + trailing_zeros w64 (get_or words at 0) in (has (places_in words) lowest ≡ true) × All (λ place. lowest ≤ place) (places_in words)
unfolding has_bit
lowest_places_in words at none some small = (
  lowest_there words at some small,
  all_in (λ place. at * 64 + trailing_zeros w64 (get_or words at 0) ≤ place) (places_in words) (λ x m.
      let w = get_or words at 0 in
      let facts = bit_at-trailing_zeros w64 w some small in
      let here : bit_at (get_or words (x / 64) 0) (x % 64) ≡ 1 = eqb-true (bit_at (get_or words (x / 64) 0) (x % 64)) 1 (sym (has-places_in words x) ∙ has_if_in (places_in words) x m) in
      elim (cases_lt (x / 64) at) [
        | inl l ↦ (let z = ap (λ v. bit_at v (x % 64)) (none (x / 64) l) ∙ bit_at-zero (x % 64) in absurd (omega arith))
        | inr g ↦ elim (cases_eq (x / 64) at) [
          | inl e ↦ elim (cases_lt (x % 64) (trailing_zeros w64 w)) [
            | inl b ↦ (let z = ap (λ k. bit_at (get_or words k 0) (x % 64)) e ∙ facts.2 (x % 64) b in absurd (omega arith))
            | inr h ↦ omega arith
          ]
          | inr d ↦ (let top = facts.0 in omega arith)
        ]
      ]),
)

-- ---- the words of the first places

pub record AreFirst (n : ℕ) (w : List ℕ) : Type 0 where
  pub full : (k : ℕ) → k < n / 64 → get_or w k 0 ≡ 2 ^ 64 - 1
  pub last : get_or w (n / 64) 0 ≡ 2 ^ (n % 64) - 1
  pub none : (k : ℕ) → n / 64 < k → get_or w k 0 ≡ 0

abbrev full_words : ℕ → List ℕ
full_words q = replicate q (2 ^ 64 - 1)

full_length : (q : ℕ) → length (full_words q) ≡ q
full_length q = length-replicate q (2 ^ 64 - 1)

copies : (x : ℕ) (ys : List ℕ) → AllClonesOf (λ a b. b ≡ a) x ys → ys ≡ replicate (length ys) x
copies x [] all = refl
copies x (y ∷ ys) all = (let same : y ≡ x = elim all.0 [ inl e ↦ e | inr e ↦ e ] in λ i. same i ∷ copies x ys all.1 i)

pub front_is : (q : ℕ) (old front : List ℕ) → old ≡ [] → AppendsClonesOf (λ a b. b ≡ a) (take q old) front (2 ^ 64 - 1) → length front ≡ q → front ≡ full_words q
front_is q old front e all long =
    let whole : front ≡ all.0 = all.1 ∙ ap (λ (l : List ℕ). take q l ++ all.0) e ∙ ap (λ (l : List ℕ). l ++ all.0) (take_all q [] (omega arith)) in
    whole ∙ copies (2 ^ 64 - 1) all.0 all.2 ∙ ap (λ n. replicate n (2 ^ 64 - 1)) (sym (ap length whole) ∙ long)

pub filled_is : (q len : ℕ) (old front : List ℕ) → old ≡ [] → len ≡ 0 → front ≡ take q old ++ replicate (q - len) (2 ^ 64 - 1) → front ≡ full_words q
filled_is q len old front e none filled =
    filled ∙ ap (λ (l : List ℕ). take q l ++ replicate (q - len) (2 ^ 64 - 1)) e ∙ ap (λ (l : List ℕ). l ++ replicate (q - len) (2 ^ 64 - 1)) (take_all q [] (omega arith)) ∙ (let all : q - len ≡ q = omega (arith, none) in ap (λ n. replicate n (2 ^ 64 - 1)) all)

pub first_whole : (n : ℕ) (w : List ℕ) → n % 64 ≡ 0 → w ≡ full_words (n / 64) → AreFirst n w
first_whole n w z e = let h = full_length (n / 64) in record {
  full = λ k l. ap (λ (v : List ℕ). get_or v k 0) e ∙ get_or-replicate (n / 64) k (2 ^ 64 - 1) 0 l;
  last = ap (λ (v : List ℕ). get_or v (n / 64) 0) e ∙ get_or_past (full_words (n / 64)) (n / 64) 0 (omega arith) ∙ sym (ap (λ r. 2 ^ r - 1) z);
  none = λ k l. ap (λ (v : List ℕ). get_or v k 0) e ∙ get_or_past (full_words (n / 64)) k 0 (omega arith);
}

pub first_more : (n : ℕ) (front w : List ℕ) → front ≡ full_words (n / 64) → w ≡ front ++ (1 * 2 ^ (n % 64) % 2 ^ 64 - 1) ∷ [] → AreFirst n w
first_more n front w e f =
    let h = full_length (n / 64) in
    let last : ℕ = 2 ^ (n % 64) - 1 in
    let shifted : 1 * 2 ^ (n % 64) % 2 ^ 64 ≡ 1 * 2 ^ (n % 64) = shl_whole 1 1 (n % 64) 64 (omega arith) (omega arith) in
    let is : 1 * 2 ^ (n % 64) % 2 ^ 64 - 1 ≡ last = omega (arith, shifted) in
    let all : w ≡ full_words (n / 64) ++ last ∷ [] = f ∙ (λ i. e i ++ is i ∷ []) in record {
      full = λ k l. ap (λ (v : List ℕ). get_or v k 0) all ∙ get_or_append_left (full_words (n / 64)) (last ∷ []) 0 k (omega arith) ∙ get_or-replicate (n / 64) k (2 ^ 64 - 1) 0 l;
      last = ap (λ (v : List ℕ). get_or v (n / 64) 0) all ∙ get_or_at (full_words (n / 64)) last [] 0 (n / 64) h;
      none = λ k l. ap (λ (v : List ℕ). get_or v k 0) all ∙ get_or_past (full_words (n / 64) ++ last ∷ []) k 0 (let g = length-append (full_words (n / 64)) (last ∷ []) in omega (arith, g, h));
    }

first_bit : (n : ℕ) (w : List ℕ) → AreFirst n w → (x : ℕ) → has_bit w x ≡ has (places n) x
unfolding has_bit
first_bit n w f x = elim (cases_lt x n) [
  | inl l ↦ (elim (cases_lt (x / 64) (n / 64)) [
    | inl b ↦ eq-eqb (bit_at (get_or w (x / 64) 0) (x % 64)) 1 (ap (λ v. bit_at v (x % 64)) (f.full (x / 64) b) ∙ bit_at_ones 64 (x % 64) (omega arith))
    | inr g ↦
        (let e : x / 64 ≡ n / 64 = omega arith in
        eq-eqb (bit_at (get_or w (x / 64) 0) (x % 64)) 1 (ap (λ k. bit_at (get_or w k 0) (x % 64)) e ∙ ap (λ v. bit_at v (x % 64)) f.last ∙ bit_at_ones (n % 64) (x % 64) (omega arith)))
  ]) ∙ sym (has_if_in (places n) x (In-places n x l))
  | inr g ↦
      (let zero_here : bit_at (get_or w (x / 64) 0) (x % 64) ≡ 0 = elim (cases_lt (n / 64) (x / 64)) [
        | inl b ↦ ap (λ v. bit_at v (x % 64)) (f.none (x / 64) b) ∙ bit_at-zero (x % 64)
        | inr h ↦
            (let e : x / 64 ≡ n / 64 = omega arith in
            ap (λ k. bit_at (get_or w k 0) (x % 64)) e ∙ ap (λ v. bit_at v (x % 64)) f.last ∙ bit_at_ones_above (n % 64) (x % 64) (omega arith))
      ] in
      ne_eqb (bit_at (get_or w (x / 64) 0) (x % 64)) 1 (λ e. omega arith)
      ∙ sym (false_from_ne_true (has (places n) x) (λ t. let b = below n x (in_if_has (places n) x t) in absurd (omega arith))))
]

pub first_places_in : (n : ℕ) (w : List ℕ) → AreFirst n w → places_in w ≡ places n
first_places_in n w f = same_set (places_in w) (places n) (up_places_in w) (up_range 0 n) (λ x. has-places_in w x ∙ first_bit n w f x)
