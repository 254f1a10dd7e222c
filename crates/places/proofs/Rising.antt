-- Rising lists of places, gone over place by place.
use Rattle.std.proofs.Common.{◌≡◌, ℕ, ◌+◌, ◌<◌, List, [], ◌∷◌, arith, subst}
use Rattle.std.specs.Prelude.{All, filter}
use Rattle.std.specs.List.{range_with_len}
use Rattle.std.specs.List.Sorted.{IsStrictlyIncreasing, IsStrictlySortedBy}
use Rattle.std.specs.Ordering.{nat_cmp}
use Rattle.std.specs.declared.cmp.Ordering.{Ordering}
use Rattle.std.specs.declared.cmp.Ordering.TheVariants.{Less}
use Rattle.std.specs.Cmp.{IsTotalOrder}
use Rattle.std.proofs.lemmas.Cmp.{nat_cmp_total}
use Rattle.std.proofs.lemmas.List.Kept.{IsStrictlySortedBy-filter}
use Rattle.std.proofs.lemmas.List.FromFn.{length-range_with_len, get_or-range_with_len}
use Rattle.std.proofs.lemmas.Map.Keys.{sorted_from_strictly_increasing}
use Rattle.rules.proofs.Lists.{all_at, Contains-from_In, In-filter, In-filter_back}
use Rattle.rules.proofs.Sorting.{Rises, rises_same}
use Rattle.places.specs.steps.PlaceSet.{has, places}
use Rattle.places.proofs.Places.{In-places, has_if_in, in_if_has}

pub rises : {X : Type 0} (cmp : X → X → Ordering) (o : IsTotalOrder cmp) (xs : List X) → IsStrictlySortedBy cmp xs → Rises cmp o xs
unfolding IsStrictlySortedBy
rises cmp o [] s = tt
rises cmp o (x ∷ xs) s = (all_at (λ y. cmp x y ≡ Less) xs s.0, rises cmp o xs s.1)

pub range_rises : (a n : ℕ) → IsStrictlyIncreasing (range_with_len a n)
range_rises a n k l =
    let h = length-range_with_len a n in
    let p = get_or-range_with_len a n k 0 (omega (arith, h, l)) in
    let q = get_or-range_with_len a n (k + 1) 0 (omega (arith, h, l)) in
    omega (arith, p, q)

-- a rising list of places below n has those of the first n that it has
pub among_places : (n : ℕ) (s : List ℕ) → IsStrictlyIncreasing s → All (λ place. place < n) s → filter (has s) (places n) ≡ s
among_places n s up low =
    rises_same nat_cmp nat_cmp_total (filter (has s) (places n)) s
    (rises nat_cmp nat_cmp_total (filter (has s) (places n)) (IsStrictlySortedBy-filter nat_cmp (has s) (places n) (sorted_from_strictly_increasing (places n) (range_rises 0 n))))
    (rises nat_cmp nat_cmp_total s (sorted_from_strictly_increasing s up))
    (λ x m. in_if_has s x (In-filter_back (has s) x (places n) m).1)
    (λ x m. let c = Contains-from_In x s m in In-filter (has s) x (places n) (In-places n x (subst (λ z. z < n) c.2 (low c.0 x c.1))) (has_if_in s x m))
