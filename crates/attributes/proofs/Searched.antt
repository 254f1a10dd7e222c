-- Where a search by halving finds no key, the attribute belongs at the place that it gives.
use Rattle.std.proofs.Common.{◌≡◌, ℕ, zero, suc, ◌+◌, ◌<◌, ◌≤◌, true, false, cond, List, [], ◌∷◌, length, refl, sym, ap, ◌∙◌, subst, inl, inr, arith}
use Rattle.std.specs.Prelude.{slice_index_or}
use Rattle.std.specs.List.{insert, AllWithin}
use Rattle.std.specs.List.Sorted.{IsSorted}
use Rattle.std.specs.Cmp.{IsTotalOrder}
use Rattle.std.specs.Ordering.{is_gt, is_lt}
use Rattle.std.specs.declared.cmp.Ordering.{Ordering}
use Rattle.std.specs.declared.cmp.Ordering.TheVariants.{Equal, Greater, Less}
use Rattle.std.proofs.lemmas.Bool.{cases_lt, true≢false}
use Rattle.std.proofs.lemmas.List.Edits.{get_or-insert_above, get_or-insert_at, get_or-insert_below, length-insert}
use Rattle.rules.specs.Lists.{insert_by}
use Rattle.rules.proofs.Lists.{In, Contains-from_In}
use Rattle.rules.proofs.Sorting.{back_of}

module _ {X : Type 0} (cmp : X → X → Ordering) (o : IsTotalOrder cmp) (y : X) where
  -- those before the place are less, and those from there on greater
  pub record IsPlaceFor (xs : List X) (i : ℕ) : Type 0 where
    pub within : i ≤ length xs
    pub less : AllWithin (λ x. cmp x y ≡ Less) xs 0 i
    pub greater : AllWithin (λ x. cmp x y ≡ Greater) xs i (length xs)

  pub inserted : (xs : List X) (i : ℕ) → IsPlaceFor xs i → insert xs i y ≡ insert_by cmp y xs
  inserted [] zero p = refl
  inserted [] (suc i) p = absurd (omega (arith, p.within))
  inserted (x ∷ xs) zero p =
      let t : is_lt (cmp y x) ≡ true = ap is_lt (back_of cmp o Greater x y (p.greater 0 y (omega arith) (omega arith))) in
      sym (ap (λ b. cond b (y ∷ x ∷ xs) (x ∷ insert_by cmp y xs)) t)
  inserted (x ∷ xs) (suc i) p =
      let f : is_lt (cmp y x) ≡ false = ap is_lt (back_of cmp o Less x y (p.less 0 y (omega arith) (omega arith))) in
      let rest : IsPlaceFor xs i = record {
        within = omega (arith, p.within);
        less = λ k d a b. p.less (suc k) d (omega arith) (omega (arith, b));
        greater = λ k d a b. p.greater (suc k) d (omega (arith, a)) (omega (arith, b));
      } in
      ap (λ l. x ∷ l) (inserted xs i rest) ∙ sym (ap (λ b. cond b (y ∷ x ∷ xs) (x ∷ insert_by cmp y xs)) f)

  pub inserted_sorted : (xs : List X) (i : ℕ) → IsPlaceFor xs i → IsSorted cmp xs → IsSorted cmp (insert xs i y)
  inserted_sorted xs i p s = λ k d from high.
      let len = length-insert xs i y p.within in
      let below : k < length xs = omega (arith, high, len) in
      elim (cases_lt (k + 1) i) [
        | inl l ↦ ap (λ x. is_lt (cmp x (slice_index_or (insert xs i y) k d))) (get_or-insert_below xs i y d (k + 1) l p.within)
            ∙ ap (λ x. is_lt (cmp (slice_index_or xs (k + 1) d) x)) (get_or-insert_below xs i y d k (omega (arith, l)) p.within)
            ∙ s k d from (let within = p.within in omega (arith, l, within))
        | inr g ↦ elim (cases_lt k i) [
          | inl l ↦ (let same : i ≡ k + 1 = omega (arith, l, g) in
              let here : slice_index_or (insert xs i y) (k + 1) d ≡ y = subst (λ n. slice_index_or (insert xs i y) n d ≡ y) same (get_or-insert_at xs i y d p.within) in
              ap (λ x. is_lt (cmp x (slice_index_or (insert xs i y) k d))) here
              ∙ ap (λ x. is_lt (cmp y x)) (get_or-insert_below xs i y d k l p.within)
              ∙ ap is_lt (back_of cmp o Less (slice_index_or xs k d) y (p.less k d from l)))
          | inr h ↦ elim (cases_lt i k) [
            | inr e ↦ (let same : i ≡ k = omega (arith, e, h) in
                let here : slice_index_or (insert xs i y) k d ≡ y = subst (λ n. slice_index_or (insert xs i y) n d ≡ y) same (get_or-insert_at xs i y d p.within) in
                ap (λ x. is_lt (cmp (slice_index_or (insert xs i y) (k + 1) d) x)) here
                ∙ ap (λ x. is_lt (cmp x y)) (get_or-insert_above xs i y d k h p.within)
                ∙ ap is_lt (p.greater k d h below))
            | inl l ↦ later k d l high len
          ]
        ]
      ]
    where
      later : (k : ℕ) (d : X) → i < k → k + 1 < length (insert xs i y) → length (insert xs i y) ≡ length xs + 1 → is_lt (cmp (slice_index_or (insert xs i y) (k + 1) d) (slice_index_or (insert xs i y) k d)) ≡ false
      later zero d l high len = absurd (omega (arith, l))
      later (suc k) d l high len =
          ap (λ x. is_lt (cmp x (slice_index_or (insert xs i y) (suc k) d))) (get_or-insert_above xs i y d (suc k) (omega (arith, l)) p.within)
          ∙ ap (λ x. is_lt (cmp (slice_index_or xs (suc k) d) x)) (subst (λ n. slice_index_or (insert xs i y) n d ≡ slice_index_or xs k d) (let e : k + 1 ≡ suc k = omega arith in e) (get_or-insert_above xs i y d k (omega (arith, l)) p.within))
          ∙ subst (λ n. is_lt (cmp (slice_index_or xs n d) (slice_index_or xs k d)) ≡ false) (let e : k + 1 ≡ suc k = omega arith in e) (s k d (omega arith) (omega (arith, high, len)))

  pub itself : cmp y y ≡ Equal
  itself = go (cmp y y) refl
    where
      go : (r : Ordering) → cmp y y ≡ r → cmp y y ≡ Equal
      go Less e = absurd (true≢false (sym (ap is_lt e) ∙ ap is_lt (back_of cmp o Less y y e)))
      go Equal e = e
      go Greater e = absurd (true≢false (sym (ap is_lt (back_of cmp o Greater y y e)) ∙ ap is_lt e))

  -- it ties with none
  pub ties_with_none : (xs : List X) (i : ℕ) → IsPlaceFor xs i → (x : X) → In x xs → cmp x y ≡ Equal → ⊥
  ties_with_none xs i p x m e =
      let c = Contains-from_In x xs m in
      let at : (r : Ordering) → cmp (slice_index_or xs c.0 x) y ≡ r → r ≡ Equal = λ r f. sym f ∙ ap (λ z. cmp z y) c.2 ∙ e in
      elim (cases_lt c.0 i) [
        | inl l ↦ true≢false (ap is_lt (at Less (p.less c.0 x (omega arith) l)))
        | inr g ↦ true≢false (ap is_gt (at Greater (p.greater c.0 x g c.1)))
      ]
