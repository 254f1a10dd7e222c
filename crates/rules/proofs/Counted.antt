-- Which names a vector counts, and what a look-up in a list of operations gives.
use Rattle.std.proofs.Common.{◌≡◌, ℕ, ◌<◌, ◌≤◌, true, false, eqb, leb, List, [], ◌∷◌, map, refl, sym, ap, ◌∙◌, subst, arith, inl, inr, Option, Some, None}
use Rattle.std.specs.Prelude.{Contains, is_some}
use Rattle.std.specs.List.{range_with_len}
use Rattle.std.proofs.lemmas.Bool.{cases_Bool, true≢false, eqb-true, eq-eqb, ne_eqb, leb-true, le-leb, cases_eq}
use Rattle.base_types.specs.Names.{Name, same_name}
use Rattle.base_types.specs.Vectors.{Vector, counts, count_of, covers, is_vector}
use Rattle.base_types.proofs.Vectors.{RisesAbove, rises}
use Rattle.rules.specs.declared.history.Op.{Op}
use Rattle.rules.specs.steps.Equality.{same_name-Decides}
use Rattle.rules.specs.Operations.{operation}
use Rattle.rules.specs.Admission.{names_counted}
use Rattle.rules.proofs.Lists.{In, Contains-from_In, In-map, In-map_back, In-flat_map, In-flat_map_back, In-range, In-range_back, all_from, all_back, find_is}

pub same_name-true : (m n : Name) → same_name m n ≡ true → m ≡ n
same_name-true m n = (same_name-Decides m n).0

pub same_name-refl : (m n : Name) → m ≡ n → same_name m n ≡ true
same_name-refl m n = (same_name-Decides m n).1

-- ---- vectors

sites_from : (last : ℕ) (v : Vector) (p : ℕ × ℕ) → RisesAbove last v → In p v → last < p.0
sites_from last [] p r m = absurd m
sites_from last (q ∷ qs) p r m = elim m [
  | inl e ↦ (let f : p.0 ≡ q.0 = ap (λ (x : ℕ × ℕ). x.0) e in omega (arith, r.0))
  | inr t ↦ (let h = sites_from q.0 qs p r.2 t in omega (arith, r.0))
]

count_within : (last : ℕ) (v : Vector) (p : ℕ × ℕ) → RisesAbove last v → In p v → count_of v p.0 ≡ p.1
count_within last [] p r m = absurd m
count_within last (q ∷ qs) p r m = elim m [
  | inl e ↦ (let f : eqb q.0 p.0 ≡ true = eq-eqb q.0 p.0 (sym (ap (λ (x : ℕ × ℕ). x.0) e)) in rw f (sym (ap (λ (x : ℕ × ℕ). x.1) e)))
  | inr t ↦ (let h = sites_from q.0 qs p r.2 t in let f : eqb q.0 p.0 ≡ false = ne_eqb q.0 p.0 (λ e. omega arith) in rw f (count_within q.0 qs p r.2 t))
]

-- the count beside a site is that site's count
pub count_of_pair : (v : Vector) (p : ℕ × ℕ) → is_vector v ≡ true → In p v → count_of v p.0 ≡ p.1
count_of_pair v p r m = count_within 0 v p (rises v r) m

counts_from : (last : ℕ) (v : Vector) (p : ℕ × ℕ) → RisesAbove last v → In p v → 1 ≤ p.1
counts_from last [] p r m = absurd m
counts_from last (q ∷ qs) p r m = elim m [
  | inl e ↦ (let f : p.1 ≡ q.1 = ap (λ (x : ℕ × ℕ). x.1) e in omega (arith, r.1))
  | inr t ↦ counts_from q.0 qs p r.2 t
]

-- no count in a vector is 0
pub count_positive : (v : Vector) (p : ℕ × ℕ) → is_vector v ≡ true → In p v → 1 ≤ p.1
count_positive v p r m = counts_from 0 v p (rises v r) m

pub count_in : (v : Vector) (s : ℕ) → 1 ≤ count_of v s → In (s, count_of v s) v
count_in [] s l = absurd (omega arith)
count_in (q ∷ qs) s l =
    elim (cases_Bool (eqb q.0 s)) [
      | inl e ↦ (let f : q.0 ≡ s = eqb-true q.0 s e in rw e (inl (λ i. (sym f i, q.1))))
      | inr e ↦ (let f : count_of (q ∷ qs) s ≡ count_of qs s = rw e refl in let k : 1 ≤ count_of qs s = omega (arith, f) in inr (subst (λ c. In (s, c) qs) (sym f) (count_in qs s k)))
    ]

pub In-names_counted : (v : Vector) (n : Name) → 1 ≤ n.1 → counts v n ≡ true → In n (names_counted v)
In-names_counted v n l c =
    let u : n.1 ≤ count_of v n.0 = leb-true n.1 (count_of v n.0) c in
    In-flat_map (λ p. map (λ k. (p.0, k)) (range_with_len 1 p.1)) (n.0, count_of v n.0) n v (count_in v n.0 (omega arith)) (In-map (λ k. (n.0, k)) n.1 _ (In-range 1 (count_of v n.0) n.1 l (omega arith)))

pub record CountedName (v : Vector) (n : Name) : Type 0 where
  pub low : 1 ≤ n.1
  pub counted : counts v n ≡ true

pub In-names_counted_back : (v : Vector) (n : Name) → is_vector v ≡ true → In n (names_counted v) → CountedName v n
In-names_counted_back v n r m =
    let c = In-flat_map_back (λ p. map (λ k. (p.0, k)) (range_with_len 1 p.1)) n v m in
    let d = In-map_back (λ k. (c.0.0, k)) n (range_with_len 1 c.0.1) c.2 in
    let b = In-range_back 1 c.0.1 d.0 d.1 in
    let f : n.0 ≡ c.0.0 = ap (λ (x : Name). x.0) d.2 in
    let g : n.1 ≡ d.0 = ap (λ (x : Name). x.1) d.2 in
    let k : count_of v n.0 ≡ c.0.1 = ap (count_of v) f ∙ count_of_pair v c.0 r c.1 in
    record { low = omega (arith, b.0); counted = le-leb n.1 (count_of v n.0) (omega (arith, b.1)) }

-- a vector that covers another counts each name that the other counts
pub covers-counts : (v w : Vector) (n : Name) → covers v w ≡ true → counts w n ≡ true → counts v n ≡ true
covers-counts v w n c e =
    let l : n.1 ≤ count_of w n.0 = leb-true n.1 (count_of w n.0) e in
    elim (cases_eq n.1 0) [
      | inl z ↦ le-leb n.1 (count_of v n.0) (omega arith)
      | inr z ↦ (let k = leb-true _ _ (all_back (λ p. leb p.1 (count_of v p.0)) w c (n.0, count_of w n.0) (count_in w n.0 (omega arith))) in le-leb n.1 (count_of v n.0) (omega arith))
    ]

-- a vector that counts each name that another counts covers it
pub covers_if : (v w : Vector) → is_vector w ≡ true → ((n : Name) → counts w n ≡ true → counts v n ≡ true) → covers v w ≡ true
covers_if v w r f = all_from _ w (λ p m.
    let e = count_of_pair w p r m in
    f p (le-leb p.1 (count_of w p.0) (omega (arith, e))))

-- ---- look-ups

pub operation_is : (h : List Op) (n : Name) (o : Op) → operation h n ≡ Some o → Contains h o × (o.name ≡ n)
operation_is h n o e =
    let c = find_is (λ x. same_name x.name n) o h e in
    (Contains-from_In o h c.0, same_name-true o.name n c.1)

-- where the look-up gives something, an operation of that name is there
pub found : (h : List Op) (n : Name) → is_some (operation h n) ≡ true → (a : Op) × Contains h a × (a.name ≡ n)
found h n e = go (operation h n) refl e
  where
    go : (r : Option Op) → operation h n ≡ r → is_some r ≡ true → (a : Op) × Contains h a × (a.name ≡ n)
    go None p q = absurd (true≢false (sym q))
    go (Some a) p q = let c = operation_is h n a p in (a, c.0, c.1)
