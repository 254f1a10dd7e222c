-- Lists without repeats.
use Rattle.std.proofs.Common.{◌≡◌, suc, ◌≤◌, Bool, List, [], ◌∷◌, ◌++◌, length, map, refl, sym, ap, ◌∙◌, subst, arith, ◌⊎◌, inl, inr}
use Rattle.std.specs.Prelude.{filter}
use Rattle.std.proofs.lemmas.Bool.{cases_Bool}
use Rattle.rules.specs.Lists.{HasNoRepeats}
use Rattle.rules.proofs.Lists.{In, In-from_Contains, Contains-from_In, In-append_cases, In-map_back, In-filter_back}

abbrev pub Once : {X : Type 0} → List X → Type 0
Once [] = Unit {0}
Once (x ∷ xs) = (In x xs → ⊥) × Once xs

pub Once-from_HasNoRepeats : {X : Type 0} (xs : List X) → HasNoRepeats xs → Once xs
Once-from_HasNoRepeats [] o = tt
Once-from_HasNoRepeats (x ∷ xs) o = (λ m. o.0 (Contains-from_In x xs m), Once-from_HasNoRepeats xs o.1)

pub HasNoRepeats-from_Once : {X : Type 0} (xs : List X) → Once xs → HasNoRepeats xs
HasNoRepeats-from_Once [] o = tt
HasNoRepeats-from_Once (x ∷ xs) o = (λ m. o.0 (In-from_Contains x xs m), HasNoRepeats-from_Once xs o.1)

pub Once-append : {X : Type 0} (xs ys : List X) → Once xs → Once ys → ((x : X) → In x xs → In x ys → ⊥) → Once (xs ++ ys)
Once-append [] ys p q d = q
Once-append (x ∷ xs) ys p q d = (
  λ m. elim (In-append_cases x xs ys m) [ inl a ↦ p.0 a | inr b ↦ d x (inl refl) b ],
  Once-append xs ys p.1 q (λ y m n. d y (inr m) n),
)

-- different members have different images
pub Once-map : {X Y : Type 0} (f : X → Y) (xs : List X) → ((x y : X) → In x xs → In y xs → f x ≡ f y → x ≡ y) → Once xs → Once (map f xs)
Once-map f [] i o = tt
Once-map f (x ∷ xs) i o = (
  λ m. let c = In-map_back f (f x) xs m in o.0 (subst (λ z. In z xs) (sym (i x c.0 (inl refl) (inr c.1) c.2)) c.1),
  Once-map f xs (λ y z m n e. i y z (inr m) (inr n) e) o.1,
)

pub Once-filter : {X : Type 0} (p : X → Bool) (xs : List X) → Once xs → Once (filter p xs)
Once-filter p [] o = tt
Once-filter p (x ∷ xs) o =
    elim (cases_Bool (p x)) [
      | inl e ↦ rw e ((λ m. o.0 (In-filter_back p x xs m).0, Once-filter p xs o.1))
      | inr e ↦ rw e (Once-filter p xs o.1)
    ]

-- ---- lengths

record Without {X : Type 0} (x : X) (ys : List X) : Type 0 where
  rest : List X
  len : length ys ≡ suc (length rest)
  others : (y : X) → In y ys → (y ≡ x) ⊎ In y rest

without : {X : Type 0} (x : X) (ys : List X) → In x ys → Without x ys
without x [] m = absurd m
without x (y ∷ ys) m = elim m [
  | inl e ↦ record { rest = ys; len = refl; others = λ z n. elim n [ inl f ↦ inl (f ∙ sym e) | inr r ↦ inr r ] }
  | inr r ↦ (let w = without x ys r in record { rest = y ∷ w.rest; len = ap suc w.len; others = λ z n. elim n [ inl f ↦ inr (inl f) | inr t ↦ elim (w.others z t) [ inl a ↦ inl a | inr b ↦ inr (inr b) ] ] })
]

-- a list without repeats is no longer than one that has all its members
pub length_within : {X : Type 0} (xs ys : List X) → Once xs → ((x : X) → In x xs → In x ys) → length xs ≤ length ys
length_within [] ys o f = omega arith
length_within (x ∷ xs) ys o f =
    let w = without x ys (f x (inl refl)) in
    let h = length_within xs w.rest o.1 (λ y m. elim (w.others y (f y (inr m))) [ inl e ↦ absurd (o.0 (subst (λ z. In z xs) e m)) | inr r ↦ r ]) in
    omega (arith, h, w.len)
