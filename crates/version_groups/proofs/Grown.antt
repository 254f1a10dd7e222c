-- The groups of before stand first after the step, each as it was or with the new place.
use Rattle.std.proofs.Common.{◌≡◌, ℕ, ◌<◌, Bool, List, [], ◌∷◌, ◌++◌, length, map, refl, ap, ◌∙◌, arith, ◌⊎◌, inl, inr, ◌||◌}
use Rattle.std.specs.Prelude.{slice_index_or}
use Rattle.std.specs.List.{list_any, list_all}
use Rattle.std.proofs.lemmas.Bool.{cases_Bool}
use Rattle.std.proofs.lemmas.List.{length-append, length-map, get_or_append_left, get_or-map}
use Rattle.places.specs.steps.PlaceSet.{is_within}
use Rattle.version_groups.specs.steps.Kept.{HaveGrown}
use Rattle.version_groups.specs.steps.Steps.{group_after, candidate, incompatible_groups, sift, next_groups}

-- what stands keeps its index
sift_stands : (done cs : List (List ℕ)) (i : ℕ) → i < length done → slice_index_or (sift done cs) i [] ≡ slice_index_or done i []
sift_stands done [] i l = refl
sift_stands done (c ∷ cs) i l = elim (cases_Bool (list_any (is_within c) done || list_any (is_within c) cs)) [
  | inl t ↦ rw t (sift_stands done cs i l)
  | inr t ↦ rw t (sift_stands (done ++ c ∷ []) cs i (omega (arith, length-append done (c ∷ []), l)) ∙ get_or_append_left done (c ∷ []) [] i l)
]

group_after_grown : (p : ℕ → Bool) (n : ℕ) (g : List ℕ) → (group_after p n g ≡ g) ⊎ (group_after p n g ≡ g ++ n ∷ [])
group_after_grown p n g = elim (cases_Bool (list_all p g)) [ inl t ↦ inr (rw t refl) | inr t ↦ inl (rw t refl) ]

pub have_grown : (p : ℕ → Bool) (n : ℕ) (gs next : List (List ℕ)) → next ≡ next_groups p n gs → HaveGrown n gs next
have_grown p n gs next e i l =
    let after : List (List ℕ) = map (group_after p n) gs in
    let candidates : List (List ℕ) = map (candidate p n) (incompatible_groups p gs) in
    let is : slice_index_or next i [] ≡ group_after p n (slice_index_or gs i []) =
    ap (λ z. slice_index_or z i []) e
    ∙ sift_stands after candidates i (omega (arith, length-map gs (group_after p n), l))
    ∙ get_or-map (group_after p n) gs i [] [] l in
    elim (group_after_grown p n (slice_index_or gs i [])) [
      | inl s ↦ inl (is ∙ s)
      | inr s ↦ inr (is ∙ s)
    ]
