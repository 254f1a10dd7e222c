-- Sorting by insertion: the member at a place moves down to where it belongs.
use Rattle.std.proofs.Common.{◌≡◌, ℕ, ◌+◌, ◌<◌, ◌≤◌, Bool, true, false, List, inl, inr, arith, refl, sym, ap, ◌∙◌, subst}
use Rattle.std.specs.Ordering.{is_lt}
use Rattle.std.specs.declared.cmp.Ordering.TheVariants.{Less}
use Rattle.std.proofs.lemmas.Bool.{cases_lt}
use Rattle.std.proofs.lemmas.List.Edits.{Swapped}
use Rattle.base_types.specs.Names.{Name}
use Rattle.base_types.specs.VersionIds.{id_cmp}
use Rattle.rules.proofs.Orders.{id_cmp_total}
use Rattle.rules.proofs.Sorting.{back_of, less_if}
use Rattle.shape.specs.steps.Kept.{is_less}

module _ {X : Type 0} (lt : X → X → Bool) where
  -- in order up to n, but for the member at a place, which is not greater than those behind it
  pub record AlmostSorted (v : ℕ → X) (at n : ℕ) : Type 0 where
    pub left : (k : ℕ) → k + 1 < at → lt (v (k + 1)) (v k) ≡ false
    pub right : (k : ℕ) → at < k → k < n → lt (v (k + 1)) (v k) ≡ false
    pub here : at < n → lt (v (at + 1)) (v at) ≡ false
    pub over : (k : ℕ) → k + 1 ≡ at → at < n → lt (v (at + 1)) (v k) ≡ false

  -- the member stands where it belongs
  pub sorted_all : (v : ℕ → X) (at n : ℕ) → AlmostSorted v at n → ((k : ℕ) → k + 1 ≡ at → lt (v at) (v k) ≡ false) → (k : ℕ) → k < n → lt (v (k + 1)) (v k) ≡ false
  sorted_all v at n s e k below = elim (cases_lt (k + 1) at) [
    | inl l ↦ s.left k l
    | inr g ↦ elim (cases_lt at k) [
      | inl h ↦ s.right k h below
      | inr h ↦ elim (cases_lt k at) [
        | inl m ↦ (let same : k + 1 ≡ at = omega (arith, g, m) in subst (λ i. lt (v i) (v k) ≡ false) (sym same) (e k same))
        | inr m ↦ (let same : at ≡ k = omega (arith, h, m) in subst (λ i. lt (v (i + 1)) (v i) ≡ false) same (s.here (subst (λ i. i < n) (sym same) below)))
      ]
    ]
  ]

  -- it moves down by one
  pub almost_down : ((x y : X) → lt x y ≡ true → lt y x ≡ false) → (v w : ℕ → X) (at n : ℕ) → AlmostSorted v (at + 1) n → at + 1 ≤ n → lt (v (at + 1)) (v at) ≡ true → Swapped v w at (at + 1) → AlmostSorted w at n
  almost_down apart v w at n s low less swapped =
      let stays : (k : ℕ) → (k ≡ at → ⊥) → (k ≡ at + 1 → ⊥) → w k ≡ v k = swapped.2 in
      record {
        left = λ k a. let far : w k ≡ v k = stays k (λ e. omega (arith, a, e)) (λ e. omega (arith, a, e)) in
            let near : w (k + 1) ≡ v (k + 1) = stays (k + 1) (λ e. omega (arith, a, e)) (λ e. omega (arith, a, e)) in
            ap (λ x. lt x (w k)) near ∙ ap (lt (v (k + 1))) far ∙ s.left k (omega (arith, a));
        right = λ k a b. elim (cases_lt (at + 1) k) [
          | inl h ↦ (let far : w k ≡ v k = stays k (λ e. omega (arith, h, e)) (λ e. omega (arith, h, e)) in
              let near : w (k + 1) ≡ v (k + 1) = stays (k + 1) (λ e. omega (arith, h, e)) (λ e. omega (arith, h, e)) in
              ap (λ x. lt x (w k)) near ∙ ap (lt (v (k + 1))) far ∙ s.right k h b)
          | inr h ↦ (let same : k ≡ at + 1 = omega (arith, a, h) in
              let far : w k ≡ v at = ap w same ∙ swapped.1 in
              let near : w (k + 1) ≡ v (k + 1) = stays (k + 1) (λ e. omega (arith, a, e)) (λ e. omega (arith, a, e)) in
              ap (λ x. lt x (w k)) near ∙ ap (lt (v (k + 1))) far ∙ subst (λ i. lt (v (i + 1)) (v at) ≡ false) (sym same) (s.over at refl (subst (λ i. i < n) same b)))
        ];
        here = λ a. ap (λ x. lt x (w at)) swapped.1 ∙ ap (lt (v at)) swapped.0 ∙ apart (v (at + 1)) (v at) less;
        over = λ k e a. ap (λ x. lt x (w k)) swapped.1 ∙ ap (lt (v at)) (stays k (λ f. omega (arith, e, f)) (λ f. omega (arith, e, f)))
            ∙ subst (λ i. lt (v i) (v k) ≡ false) e (s.left k (omega (arith, e)));
      }

-- of two identifiers at most one is less than the other
pub apart : (x y : List Name) → is_less x y ≡ true → is_less y x ≡ false
apart x y t = ap is_lt (back_of id_cmp id_cmp_total Less x y (less_if id_cmp id_cmp_total x y t))
