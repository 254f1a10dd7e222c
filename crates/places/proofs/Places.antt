-- The first places, and what a test keeps of them.
use Rattle.std.proofs.Common.{◌≡◌, ℕ, zero, suc, ◌+◌, ◌<◌, ◌≤◌, Bool, true, false, List, [], ◌∷◌, ◌++◌, refl, sym, ap, ◌∙◌, subst, arith, inl, inr, eqb}
use Rattle.std.specs.Prelude.{filter, All}
use Rattle.std.specs.List.{range_with_len}
use Rattle.std.proofs.lemmas.Bool.{false_from_ne_true, eq-eqb, eqb-true, lt-ltb, or_left, or_right}
use Rattle.std.proofs.lemmas.List.{append-nil}
use Rattle.std.proofs.lemmas.List.Elements.{filter-append, All-nil, All-cons}
use Rattle.rules.proofs.Lists.{In, Contains-from_In, In-filter, In-filter_back, In-range, In-range_back, any_from, any_back, all_from, all_back}
use Rattle.rules.proofs.Once.{Once}
use Rattle.rules.proofs.Relation.{same_answer}
use Rattle.places.specs.steps.PlaceSet.{has, is_within, with_place, places}

-- ---- the first n places

pub In-places : (n x : ℕ) → x < n → In x (places n)
In-places n x l = In-range 0 n x (omega arith) (omega arith)

pub below : (n x : ℕ) → In x (places n) → x < n
below n x m = let b = In-range_back 0 n x m in omega (arith, b.1)

range_push : (a n : ℕ) → range_with_len a (suc n) ≡ range_with_len a n ++ (a + n) ∷ []
range_push a zero = let e : a ≡ a + 0 = omega arith in ap (λ x. x ∷ []) e
range_push a (suc n) = ap (λ l. a ∷ l) (range_push (a + 1) n ∙ (let e : a + 1 + n ≡ a + suc n = omega arith in ap (λ x. range_with_len (a + 1) n ++ x ∷ []) e))

pub places_push : (n : ℕ) → places (n + 1) ≡ places n ++ n ∷ []
places_push n = (let e : n + 1 ≡ suc n = omega arith in ap places e) ∙ range_push 0 n ∙ (let e : 0 + n ≡ n = omega arith in ap (λ x. places n ++ x ∷ []) e)

range_once : (a n : ℕ) → Once (range_with_len a n)
range_once a zero = tt
range_once a (suc n) = ((λ m. let b = In-range_back (a + 1) n a m in absurd (omega (arith, b.0))), range_once (a + 1) n)

pub Once-places : (n : ℕ) → Once (places n)
Once-places n = range_once 0 n

-- ---- what a test keeps of them

pub has_if_in : (xs : List ℕ) (x : ℕ) → In x xs → has xs x ≡ true
has_if_in xs x m = any_from (λ y. eqb y x) x xs m (eq-eqb x x refl)

pub in_if_has : (xs : List ℕ) (x : ℕ) → has xs x ≡ true → In x xs
in_if_has xs x e = let c = any_back (λ y. eqb y x) xs e in subst (λ z. In z xs) (eqb-true c.0 x c.2) c.1

pub within_back : (a b : List ℕ) → is_within a b ≡ true → (x : ℕ) → In x a → In x b
within_back a b t x m = in_if_has b x (all_back (has b) a t x m)

pub within_from : (a b : List ℕ) → ((x : ℕ) → In x a → In x b) → is_within a b ≡ true
within_from a b f = all_from (has b) a (λ x m. has_if_in b x (f x m))

pub has-filter : (p : ℕ → Bool) (n x : ℕ) → x < n → has (filter p (places n)) x ≡ p x
has-filter p n x l = same_answer (has (filter p (places n)) x) (p x)
    (λ e. (In-filter_back p x (places n) (in_if_has (filter p (places n)) x e)).1)
    (λ e. has_if_in (filter p (places n)) x (In-filter p x (places n) (In-places n x l) e))

pub has-filter_past : (p : ℕ → Bool) (n x : ℕ) → n ≤ x → has (filter p (places n)) x ≡ false
has-filter_past p n x l = false_from_ne_true (has (filter p (places n)) x) (λ e.
    let b = below n x (In-filter_back p x (places n) (in_if_has (filter p (places n)) x e)).0 in absurd (omega arith))

pub kept_next : (p : ℕ → Bool) (n : ℕ) → p n ≡ true → filter p (places (n + 1)) ≡ filter p (places n) ++ n ∷ []
kept_next p n e = ap (filter p) (places_push n) ∙ filter-append p (places n) (n ∷ []) ∙ (let f : filter p (n ∷ []) ≡ n ∷ [] = rw e refl in ap (λ l. filter p (places n) ++ l) f)

pub left_next : (p : ℕ → Bool) (n : ℕ) → p n ≡ false → filter p (places (n + 1)) ≡ filter p (places n)
left_next p n e = ap (filter p) (places_push n) ∙ filter-append p (places n) (n ∷ []) ∙ (let f : filter p (n ∷ []) ≡ [] = rw e refl in ap (λ l. filter p (places n) ++ l) f) ∙ append-nil (filter p (places n))

-- a place above all goes to the end
pub with_place_last : (x : ℕ) (xs : List ℕ) → ((y : ℕ) → has xs y ≡ true → y < x) → with_place x xs ≡ xs ++ x ∷ []
with_place_last x [] h = refl
with_place_last x (y ∷ ys) h = rw (lt-ltb y x (h y (or_left _ (has ys y) (eq-eqb y y refl))), with_place_last x ys (λ z k. h z (or_right _ (has ys z) k)))

-- a loop over the places: what it has so far, where the test keeps the next one, and where it doesn't
pub put_next : (p : ℕ → Bool) (n : ℕ) (old new : List ℕ) → old ≡ filter p (places n) → p n ≡ true → new ≡ with_place n old → new ≡ filter p (places (n + 1))
put_next p n old new e t q =
    q ∙ ap (with_place n) e
    ∙ with_place_last n (filter p (places n)) (λ y h. below n y (In-filter_back p y (places n) (in_if_has (filter p (places n)) y h)).0)
    ∙ sym (kept_next p n t)

pub skip_next : (p : ℕ → Bool) (n : ℕ) (old new : List ℕ) → old ≡ filter p (places n) → p n ≡ false → new ≡ old → new ≡ filter p (places (n + 1))
skip_next p n old new e t q = q ∙ e ∙ sym (left_next p n t)

pub all_in : (P : ℕ → Type 0) (xs : List ℕ) → ((x : ℕ) → In x xs → P x) → All P xs
all_in P [] f = All-nil P
all_in P (x ∷ xs) f = All-cons P x xs (f x (inl refl)) (all_in P xs (λ y m. f y (inr m)))

pub in_all : (P : ℕ → Type 0) (xs : List ℕ) → All P xs → (x : ℕ) → In x xs → P x
in_all P xs a x m = let c = Contains-from_In x xs m in subst P c.2 (a c.0 x c.1)

-- what is kept is below n
pub all_below : (p : ℕ → Bool) (n : ℕ) (xs : List ℕ) → xs ≡ filter p (places n) → All (λ x. x < n) xs
all_below p n xs e = all_in (λ x. x < n) xs (λ x m. below n x (In-filter_back p x (places n) (subst (λ l. In x l) e m)).0)
