-- A history can be listed in causal order.
use Rattle.std.proofs.Common.{◌≡◌, ◌≤◌, true, false, List, [], ◌∷◌, refl, sym, subst, arith, inl, inr}
use Rattle.std.specs.declared.cmp.Ordering.{Ordering}
use Rattle.std.specs.declared.cmp.Ordering.TheVariants.{Less, Equal, Greater}
use Rattle.std.specs.Ordering.{is_lt, nat_cmp, on}
use Rattle.std.specs.List.Sorted.{IsPermutation}
use Rattle.std.proofs.lemmas.Bool.{cases_Bool, false_from_ne_true, not_from_false}
use Rattle.std.proofs.lemmas.Cmp.{ranked}
use Rattle.rules.specs.declared.history.Op.{Op}
use Rattle.rules.specs.Lists.{insert_by, sort_by}
use Rattle.rules.specs.Operations.{IsHistory, IsCausallyOrdered, before}
use Rattle.rules.specs.Conflicts.{total}
use Rattle.rules.proofs.Lists.{In, In-from_Contains, Contains-from_In}
use Rattle.rules.proofs.Sorting.{insert_back, sort_back}
use Rattle.rules.proofs.Versions.{sort_permutes}
use Rattle.rules.proofs.Vectors.{total-before}

-- operations by how many operations they count
abbrev by_total : Op → Op → Ordering
by_total = on (λ o. total o.seen) nat_cmp

-- the totals don't fall
abbrev Grows : List Op → Type 0
Grows [] = Unit {0}
Grows (x ∷ xs) = ((y : Op) → In y xs → total x.seen ≤ total y.seen) × Grows xs

below : (x y : Op) → is_lt (by_total x y) ≡ true → total x.seen ≤ total y.seen
below x y e = go (nat_cmp (total x.seen) (total y.seen)) refl e
  where
    go : (r : Ordering) → nat_cmp (total x.seen) (total y.seen) ≡ r → is_lt r ≡ true → total x.seen ≤ total y.seen
    go Less p t = (let r = ranked (total x.seen) (total y.seen) _ (sym p) in omega (arith, r))
    go Equal p t = (let r = ranked (total x.seen) (total y.seen) _ (sym p) in omega (arith, r))
    go Greater p t = absurd cc

above : (x y : Op) → is_lt (by_total x y) ≡ false → total y.seen ≤ total x.seen
above x y e = go (nat_cmp (total x.seen) (total y.seen)) refl e
  where
    go : (r : Ordering) → nat_cmp (total x.seen) (total y.seen) ≡ r → is_lt r ≡ false → total y.seen ≤ total x.seen
    go Less p t = absurd cc
    go Equal p t = (let r = ranked (total x.seen) (total y.seen) _ (sym p) in omega (arith, r))
    go Greater p t = (let r = ranked (total x.seen) (total y.seen) _ (sym p) in omega (arith, r))

insert_grows : (x : Op) (ys : List Op) → Grows ys → Grows (insert_by by_total x ys)
insert_grows x [] g = ((λ y m. absurd m), tt)
insert_grows x (y ∷ ys) g = elim (cases_Bool (is_lt (by_total x y))) [
  | inl e ↦ (let l = below x y e in rw e ((λ z m. elim m [ inl f ↦ subst (λ (w : Op). total x.seen ≤ total w.seen) (sym f) l | inr r ↦ (let k = g.0 z r in omega (arith, l, k)) ]), g))
  | inr e ↦ (let l = above x y e in rw e ((λ z m. elim (insert_back by_total z x ys m) [ inl f ↦ subst (λ (w : Op). total y.seen ≤ total w.seen) (sym f) l | inr r ↦ g.0 z r ]), insert_grows x ys g.1))
]

sort_grows : (xs : List Op) → Grows (sort_by by_total xs)
sort_grows [] = tt
sort_grows (x ∷ xs) = insert_grows x (sort_by by_total xs) (sort_grows xs)

ordered_if : {h : List Op} → IsHistory h → (xs : List Op) → ((x : Op) → In x xs → In x h) → Grows xs → IsCausallyOrdered xs
ordered_if i [] f g = tt
ordered_if {h} i (x ∷ xs) f g = (
  (λ y m. not_from_false (before y x) (false_from_ne_true (before y x) (λ t.
      let less = total-before i y x (Contains-from_In y h (f y (inr (In-from_Contains y xs m)))) (Contains-from_In x h (f x (inl refl))) t in
      let more = g.0 y (In-from_Contains y xs m) in
      omega (arith, less, more)))),
  ordered_if i xs (λ z m. f z (inr m)) g.1,
)

-- listed by how many operations each counts, a history is in causal order
pub causal_listing : (h : List Op) → IsHistory h → (k : List Op) × IsPermutation h k × IsCausallyOrdered k
causal_listing h i = (sort_by by_total h, sort_permutes by_total h, ordered_if i (sort_by by_total h) (λ x m. sort_back by_total x h m) (sort_grows h))
