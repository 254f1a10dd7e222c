-- What a sort of the program leaves is the list sorted.
use Rattle.std.proofs.Common.{◌≡◌, ◌+◌, false, List, [], ◌∷◌, refl, sym, ap, ◌∙◌, inl, inr, arith, suc, subst}
use Rattle.std.specs.declared.cmp.Ordering.{Ordering}
use Rattle.std.specs.declared.cmp.Ordering.TheVariants.{Equal}
use Rattle.std.specs.Cmp.{IsTotalOrder}
use Rattle.std.specs.List.Sorted.{IsPermutation, IsSorted}
use Rattle.std.proofs.lemmas.List.Sorted.{IsPermutation-sym}
use Rattle.std.specs.Ordering.{is_lt}
use Rattle.std.specs.Prelude.{slice_index_or}
use Rattle.rules.specs.Lists.{sort_by}
use Rattle.rules.proofs.Lists.{In}
use Rattle.rules.proofs.Once.{Once}
use Rattle.rules.proofs.Permutations.{in_permutation, once_permutation}
use Rattle.rules.proofs.Sorting.{Rises, Untied, back_of, less_back, sort_is}

module _ {X : Type 0} (cmp : X → X → Ordering) (total : IsTotalOrder cmp) where
  -- two members that tie are the same
  abbrev pub TiesAreSame : List X → Type 0
  TiesAreSame xs = (x y : X) → In x xs → In y xs → cmp x y ≡ Equal → x ≡ y

  pub untied_if_once : (xs : List X) → Once xs → TiesAreSame xs → Untied cmp total xs
  untied_if_once [] o same = tt
  untied_if_once (x ∷ xs) o same = (
    (λ y m e. o.0 (subst (λ z. In z xs) (sym (same x y (inl refl) (inr m) e)) m)),
    untied_if_once xs o.1 (λ y z m n e. same y z (inr m) (inr n) e),
  )

  later_sorted : (y : X) (ys : List X) → IsSorted cmp (y ∷ ys) → IsSorted cmp ys
  later_sorted y ys s = λ k d low high.
      let e : suc k + 1 ≡ suc (k + 1) = omega arith in
      subst (λ n. is_lt (cmp (slice_index_or (y ∷ ys) n d) (slice_index_or ys k d)) ≡ false) e (s (suc k) d (omega arith) (omega (arith, high)))

  rises_if_sorted : (ys : List X) → IsSorted cmp ys → Untied cmp total ys → Rises cmp total ys
  rises_if_sorted [] s u = tt
  rises_if_sorted (y ∷ []) s u = ((λ w m. absurd m), tt)
  rises_if_sorted (y ∷ z ∷ zs) s u =
      let first = less_back cmp total z y (s 0 y (omega arith) (omega arith)) (λ e. u.0 z (inl refl) (back_of cmp total Equal z y e)) in
      let later = rises_if_sorted (z ∷ zs) (later_sorted y (z ∷ zs) s) u.1 in
      ((λ w m. elim m [ inl e ↦ ap (cmp y) e ∙ first | inr r ↦ total.trans y z w first (later.0 w r) ]), later)

  pub sorted_rises : (xs ys : List X) → IsPermutation xs ys → IsSorted cmp ys → Once xs → TiesAreSame xs → Rises cmp total ys
  sorted_rises xs ys p s o same =
      let back : (x : X) → In x ys → In x xs = λ x m. in_permutation x ys xs (IsPermutation-sym xs ys p) m in
      rises_if_sorted ys s (untied_if_once ys (once_permutation xs ys p o) (λ x y m n e. same x y (back x m) (back y n) e))

  pub sorted_is : (xs ys : List X) → IsPermutation xs ys → IsSorted cmp ys → Once xs → TiesAreSame xs → ys ≡ sort_by cmp xs
  sorted_is xs ys p s o same =
      sort_is cmp total xs ys (untied_if_once xs o same) (sorted_rises xs ys p s o same)
      (λ x m. in_permutation x xs ys p m)
      (λ x m. in_permutation x ys xs (IsPermutation-sym xs ys p) m)
