-- Where an insertion in order puts its element; what a sorted list has, and that there is one for each set of members.
use Rattle.std.proofs.Common.{◌≡◌, ℕ, suc, ◌+◌, ◌≤◌, Bool, true, false, List, [], ◌∷◌, ◌++◌, length, take, drop, None, refl, sym, ap, ◌∙◌, ◌⊎◌, inl, inr, arith, ltb}
use Rattle.std.specs.declared.cmp.Ordering.{Ordering}
use Rattle.std.specs.declared.cmp.Ordering.TheVariants.{Less, Equal, Greater}
use Rattle.std.specs.Ordering.{is_lt, ordering_reverse}
use Rattle.std.specs.Cmp.{IsTotalOrder}
use Rattle.std.specs.List.{position, position_or_len}
use Rattle.std.proofs.lemmas.Bool.{cases_Bool, ltb-false, true≢false}
use Rattle.std.proofs.lemmas.List.{take_all, drop_all}
use Rattle.base_types.proofs.Choices.{not_first}
use Rattle.rules.specs.Lists.{insert_by, sort_by}
use Rattle.rules.proofs.Lists.{In}

module _ {X : Type 0} (cmp : X → X → Ordering) (x : X) where
  abbrev above : X → Bool
  above y = is_lt (cmp x y)

  at_place : (xs : List X) → insert_by cmp x xs ≡ take (position_or_len above xs) xs ++ x ∷ drop (position_or_len above xs) xs
  at_place [] = refl
  at_place (y ∷ ys) = elim (cases_Bool (above y)) [
    | inl t ↦ rw t refl
    | inr f ↦ rw f (let k : ℕ = position_or_len above ys in
        let one : 1 + k ≡ suc k = omega arith in
        ap (λ zs. y ∷ zs) (at_place ys) ∙ sym (ap (λ n. take n (y ∷ ys) ++ x ∷ drop n (y ∷ ys)) one))
  ]

  pub inserted_last : (xs : List X) → position above xs ≡ None → insert_by cmp x xs ≡ xs ++ x ∷ []
  inserted_last xs e =
      let past : length xs ≤ position_or_len above xs = ltb-false _ _ (not_first (ltb (position_or_len above xs) (length xs)) (position_or_len above xs) None e).0 in
      at_place xs ∙ (λ i. take_all (position_or_len above xs) xs past i ++ x ∷ drop_all (position_or_len above xs) xs past i)

-- ---- a sorted list has the members of the list

module _ {X : Type 0} (cmp : X → X → Ordering) where
  pub insert_in : (x y : X) (ys : List X) → (x ≡ y) ⊎ In x ys → In x (insert_by cmp y ys)
  insert_in x y [] m = m
  insert_in x y (z ∷ zs) m = elim (cases_Bool (is_lt (cmp y z))) [
    | inl e ↦ rw e m
    | inr e ↦ rw e (elim m [ inl f ↦ inr (insert_in x y zs (inl f)) | inr q ↦ elim q [ inl g ↦ inl g | inr r ↦ inr (insert_in x y zs (inr r)) ] ])
  ]

  pub insert_back : (x y : X) (ys : List X) → In x (insert_by cmp y ys) → (x ≡ y) ⊎ In x ys
  insert_back x y [] m = m
  insert_back x y (z ∷ zs) m = elim (cases_Bool (is_lt (cmp y z))) [
    | inl e ↦ (rw e at m)
    | inr e ↦ (let n : (x ≡ z) ⊎ In x (insert_by cmp y zs) = rw e at m in elim n [ inl g ↦ inr (inl g) | inr t ↦ elim (insert_back x y zs t) [ inl f ↦ inl f | inr r ↦ inr (inr r) ] ])
  ]

  pub sort_in : (x : X) (xs : List X) → In x xs → In x (sort_by cmp xs)
  sort_in x [] m = m
  sort_in x (y ∷ ys) m = insert_in x y (sort_by cmp ys) (elim m [ inl e ↦ inl e | inr r ↦ inr (sort_in x ys r) ])

  pub sort_back : (x : X) (xs : List X) → In x (sort_by cmp xs) → In x xs
  sort_back x [] m = m
  sort_back x (y ∷ ys) m = elim (insert_back x y (sort_by cmp ys) m) [ inl e ↦ inl e | inr r ↦ inr (sort_back x ys r) ]

-- ---- one sorted list for each set of members of which no two tie

module _ {X : Type 0} (cmp : X → X → Ordering) (o : IsTotalOrder cmp) where
  abbrev pub Rises : List X → Type 0
  Rises [] = Unit {0}
  Rises (x ∷ xs) = ((y : X) → In y xs → cmp x y ≡ Less) × Rises xs

  pub back_of : (r : Ordering) (x y : X) → cmp x y ≡ r → cmp y x ≡ ordering_reverse r
  back_of r x y e = o.antisymm y x ∙ ap ordering_reverse e

  not_two : (x y : X) → cmp x y ≡ Less → cmp y x ≡ Less → ⊥
  not_two x y p q = let e : Less ≡ Greater = sym q ∙ back_of Less x y p in true≢false (ap is_lt e)

  pub never_below_itself : (x : X) → cmp x x ≡ Less → ⊥
  never_below_itself x p = not_two x x p p

  pub less_back : (x y : X) → is_lt (cmp x y) ≡ false → (cmp x y ≡ Equal → ⊥) → cmp y x ≡ Less
  less_back x y e d = go (cmp x y) refl
    where
      go : (r : Ordering) → cmp x y ≡ r → cmp y x ≡ Less
      go Less p = absurd (true≢false (sym (ap is_lt p) ∙ e))
      go Equal p = absurd (d p)
      go Greater p = back_of Greater x y p

  pub less_if : (x y : X) → is_lt (cmp x y) ≡ true → cmp x y ≡ Less
  less_if x y e = go (cmp x y) refl
    where
      go : (r : Ordering) → cmp x y ≡ r → cmp x y ≡ Less
      go Less p = p
      go Equal p = absurd (true≢false (sym e ∙ ap is_lt p))
      go Greater p = absurd (true≢false (sym e ∙ ap is_lt p))

  insert_rises : (x : X) (ys : List X) → ((y : X) → In y ys → cmp x y ≡ Equal → ⊥) → Rises ys → Rises (insert_by cmp x ys)
  insert_rises x [] d r = (λ y m. absurd m, tt)
  insert_rises x (y ∷ ys) d r = elim (cases_Bool (is_lt (cmp x y))) [
    | inl e ↦ (let p = less_if x y e in rw e ((λ z m. elim m [ inl f ↦ ap (cmp x) f ∙ p | inr t ↦ o.trans x y z p (r.0 z t) ], r)))
    | inr e ↦ (let p = less_back x y e (d y (inl refl)) in rw e ((λ z m. elim (insert_back cmp z x ys m) [ inl f ↦ ap (cmp y) f ∙ p | inr t ↦ r.0 z t ], insert_rises x ys (λ z m. d z (inr m)) r.1)))
  ]

  -- no member ties with a later one
  abbrev pub Untied : List X → Type 0
  Untied [] = Unit {0}
  Untied (x ∷ xs) = ((y : X) → In y xs → cmp x y ≡ Equal → ⊥) × Untied xs

  pub sort_rises : (xs : List X) → Untied xs → Rises (sort_by cmp xs)
  sort_rises [] u = tt
  sort_rises (x ∷ xs) u = insert_rises x (sort_by cmp xs) (λ y m. u.0 y (sort_back cmp y xs m)) (sort_rises xs u.1)

  pub rises_same : (xs ys : List X) → Rises xs → Rises ys → ((z : X) → In z xs → In z ys) → ((z : X) → In z ys → In z xs) → xs ≡ ys
  rises_same [] [] r s f b = refl
  rises_same [] (y ∷ ys) r s f b = absurd (b y (inl refl))
  rises_same (x ∷ xs) [] r s f b = absurd (f x (inl refl))
  rises_same (x ∷ xs) (y ∷ ys) r s f b =
      let heads : x ≡ y = elim (f x (inl refl)) [
        | inl e ↦ e
        | inr t ↦ elim (b y (inl refl)) [ inl e ↦ sym e | inr u ↦ absurd (not_two x y (r.0 y u) (s.0 x t)) ]
      ] in
      let to : (z : X) → In z xs → In z ys = λ z l. elim (f z (inr l)) [ inl e ↦ absurd (never_below_itself z (ap (λ w. cmp w z) (e ∙ sym heads) ∙ r.0 z l)) | inr t ↦ t ] in
      let back : (z : X) → In z ys → In z xs = λ z l. elim (b z (inr l)) [ inl e ↦ absurd (never_below_itself z (ap (λ w. cmp w z) (e ∙ heads) ∙ s.0 z l)) | inr t ↦ t ] in
      λ i. heads i ∷ rises_same xs ys r.1 s.1 to back i

  -- a rising list with the members of another is that one sorted: what a sort of the program leaves
  pub sort_is : (xs ys : List X) → Untied xs → Rises ys → ((z : X) → In z xs → In z ys) → ((z : X) → In z ys → In z xs) → ys ≡ sort_by cmp xs
  sort_is xs ys u r f b = rises_same ys (sort_by cmp xs) r (sort_rises xs u) (λ z l. sort_in cmp z xs (b z l)) (λ z l. f z (sort_back cmp z xs l))
