-- Lists without repeats that have the same members are the same in another order.
use Rattle.std.proofs.Common.{◌≡◌, ◌≤◌, ◌+◌, List, [], ◌∷◌, ◌++◌, length, inl, inr, ◌⊎◌, refl, sym, ap, ◌∙◌, subst, arith}
use Rattle.std.specs.List.Sorted.{IsPermutation}
use Rattle.std.proofs.lemmas.List.Sorted.{IsPermutation-refl, IsPermutation-cons, IsPermutation-middle, IsPermutation-sym, IsPermutation-trans, Contains-permutation, length_permutation}
use Rattle.rules.proofs.Lists.{In, In-from_Contains, Contains-from_In, In-append_left, In-append_right, In-append_cases}
use Rattle.rules.proofs.Once.{Once, length_within}

pub in_permutation : {X : Type 0} (x : X) (xs ys : List X) → IsPermutation xs ys → In x xs → In x ys
in_permutation x xs ys p m = In-from_Contains x ys (Contains-permutation xs ys x p (Contains-from_In x xs m))

-- a member parts its list
record Parted {X : Type 0} (x : X) (xs : List X) : Type 0 where
  front : List X
  back : List X
  is : xs ≡ front ++ x ∷ back

parted : {X : Type 0} (x : X) (xs : List X) → In x xs → Parted x xs
parted x [] m = absurd m
parted x (y ∷ ys) m = elim m [
  | inl e ↦ record { front = []; back = ys; is = ap (λ z. z ∷ ys) (sym e) }
  | inr r ↦ (let p = parted x ys r in record { front = y ∷ p.front; back = p.back; is = ap (λ l. y ∷ l) p.is })
]

in_middle : {X : Type 0} (z x : X) (front back : List X) → In z (front ++ back) → In z (front ++ x ∷ back)
in_middle z x front back m = elim (In-append_cases z front back m) [ inl l ↦ In-append_left z front (x ∷ back) l | inr r ↦ In-append_right z front (x ∷ back) (inr r) ]

in_middle_cases : {X : Type 0} (z x : X) (front back : List X) → In z (front ++ x ∷ back) → (z ≡ x) ⊎ In z (front ++ back)
in_middle_cases z x front back m = elim (In-append_cases z front (x ∷ back) m) [
  | inl l ↦ inr (In-append_left z front back l)
  | inr r ↦ elim r [ inl e ↦ inl e | inr k ↦ inr (In-append_right z front back k) ]
]

-- what stands beside a member of a list without repeats
pub once_middle : {X : Type 0} (x : X) (front back : List X) → Once (front ++ x ∷ back) → (In x (front ++ back) → ⊥) × Once (front ++ back)
once_middle x [] back o = o
once_middle {X} x (y ∷ front) back o =
    let r = once_middle x front back o.1 in (
      (λ m. elim m [ inl e ↦ o.0 (subst (λ z. In z (front ++ x ∷ back)) e (In-append_right x front (x ∷ back) (inl refl))) | inr l ↦ r.0 l ]),
      ((λ m. o.0 (in_middle y x front back m)), r.1),
    )

pub same_members : {X : Type 0} (xs ys : List X) → Once xs → Once ys → ((x : X) → In x xs → In x ys) → ((x : X) → In x ys → In x xs) → IsPermutation xs ys
same_members [] [] o u to back = IsPermutation-refl []
same_members [] (y ∷ ys) o u to back = absurd (back y (inl refl))
same_members {X} (x ∷ xs) ys o u to back =
    let p = parted x ys (to x (inl refl)) in
    let rest : List X = p.front ++ p.back in
    let once = once_middle x p.front p.back (subst Once p.is u) in
    let there : (z : X) → In z xs → In z rest = λ z m. elim (in_middle_cases z x p.front p.back (subst (λ l. In z l) p.is (to z (inr m)))) [
      | inl e ↦ absurd (o.0 (subst (λ w. In w xs) e m))
      | inr k ↦ k
    ] in
    let from : (z : X) → In z rest → In z xs = λ z m. elim (back z (subst (λ l. In z l) (sym p.is) (in_middle z x p.front p.back m))) [
      | inl e ↦ absurd (once.0 (subst (λ w. In w rest) e m))
      | inr k ↦ k
    ] in
    let tails = same_members xs rest o.1 once.1 there from in
    let whole = IsPermutation-trans (x ∷ xs) (x ∷ rest) (p.front ++ x ∷ p.back) (IsPermutation-cons x xs rest tails) (IsPermutation-sym (p.front ++ x ∷ p.back) (x ∷ rest) (IsPermutation-middle p.front x p.back)) in
    subst (λ l. IsPermutation (x ∷ xs) l) (sym p.is) whole

-- a list as long as one without repeats that has the same members has no repeats either
once_as_long : {X : Type 0} (xs ys : List X) → Once xs → ((x : X) → In x xs → In x ys) → ((x : X) → In x ys → In x xs) → length ys ≤ length xs → Once ys
once_as_long xs [] o to back n = tt
once_as_long {X} xs (y ∷ ys) o to back n =
    let p = parted y xs (back y (inl refl)) in
    let rest : List X = p.front ++ p.back in
    let once = once_middle y p.front p.back (subst Once p.is o) in
    let size : length xs ≡ length rest + 1 = ap length p.is ∙ length_middle p.front p.back in
    let new : In y ys → ⊥ = λ m.
    let short = length_within xs ys o (λ x l. elim (to x l) [ inl e ↦ subst (λ z. In z ys) (sym e) m | inr r ↦ r ]) in
    omega (arith, short, n) in (
      new,
      once_as_long rest ys once.1
          (λ x m. elim (to x (subst (λ l. In x l) (sym p.is) (in_middle x y p.front p.back m))) [
            | inl e ↦ absurd (once.0 (subst (λ w. In w rest) e m))
            | inr r ↦ r
          ])
          (λ x m. elim (in_middle_cases x y p.front p.back (subst (λ l. In x l) p.is (back x (inr m)))) [
            | inl e ↦ absurd (new (subst (λ w. In w ys) e m))
            | inr r ↦ r
          ])
          (omega (arith, n, size)),
    )
  where
    length_middle : (front back : List X) → length (front ++ y ∷ back) ≡ length (front ++ back) + 1
    length_middle [] back = omega arith
    length_middle (x ∷ front) back = let h = length_middle front back in omega (arith, h)

pub once_permutation : {X : Type 0} (xs ys : List X) → IsPermutation xs ys → Once xs → Once ys
once_permutation xs ys p o =
    let n = length_permutation xs ys p in
    once_as_long xs ys o (λ x m. in_permutation x xs ys p m) (λ x m. in_permutation x ys xs (IsPermutation-sym xs ys p) m) (omega (arith, n))
