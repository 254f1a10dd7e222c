-- Places of which no two are in conflict have one group, with all of them.
use Rattle.std.proofs.Common.{◌≡◌, ℕ, ◌<◌, ◌≤◌, Bool, false, List, [], ◌∷◌, length, refl, sym, ap, ◌∙◌, subst, arith, inl, inr}
use Rattle.std.specs.List.Sorted.{IsPermutation}
use Rattle.std.proofs.lemmas.Bool.{false_from_ne_true, true≢false}
use Rattle.std.proofs.lemmas.List.Sorted.{IsPermutation-refl, length_permutation}
use Rattle.base_types.specs.Names.{Name}
use Rattle.rules.specs.Groups.{groups_of, in_conflict_with, IsGroup, IsSublist}
use Rattle.rules.proofs.Lists.{In, In-from_Contains, Contains-from_In, In-filter, any_none}
use Rattle.rules.proofs.Once.{Once}
use Rattle.rules.proofs.Groups.{group_in, group_is, sublist_in, sublist_same, Once-groups_of}
use Rattle.places.specs.steps.PlaceSet.{places}
use Rattle.places.specs.steps.Relations.{places_in_conflict, IsRelation}
use Rattle.places.proofs.Places.{Once-places}
use Rattle.version_groups.specs.steps.Kept.{AreGroups, count_of_groups}
use Rattle.version_groups.proofs.Exact.{count_of_part}

whole : {X : Type 0} (s : List X) → IsSublist s s
whole [] = refl
whole (x ∷ s) = inl (s, refl, whole s)

-- a list with one member, which is there once
only_one : {X : Type 0} (x : X) (xs : List X) → Once xs → In x xs → ((y : X) → In y xs → y ≡ x) → xs ≡ x ∷ []
only_one x [] o m all = absurd m
only_one {X} x (y ∷ []) o m all = (let e : y ≡ x = all y (inl refl) in ap (λ (z : X). z ∷ []) e)
only_one x (y ∷ z ∷ zs) o m all = absurd (o.0 (inl (all y (inl refl) ∙ sym (all z (inr (inl refl))))))

module _ (is_conflict : ℕ → ℕ → Bool) (n : ℕ) (none : places_in_conflict is_conflict n ≡ []) where
  free : (x y : ℕ) → In x (places n) → In y (places n) → is_conflict x y ≡ false
  free x y m l = any_none (is_conflict x) y (places n) (false_from_ne_true (in_conflict_with is_conflict (places n) x) (λ t. subst (λ (s : List ℕ). In x s) none (In-filter (in_conflict_with is_conflict (places n)) x (places n) m t))) l

  all_is_group : IsGroup is_conflict (places n) (places n)
  all_is_group = record {
    inside = whole (places n);
    compatible = λ x y m l. free x y (In-from_Contains x (places n) m) (In-from_Contains y (places n) l);
    maximal = λ x m. inl m;
  }

  inside_of : (g : List ℕ) → IsGroup is_conflict (places n) g → (x : ℕ) → In x g → In x (places n)
  inside_of g i x m = sublist_in g (places n) i.inside x m

  group_has_all : (g : List ℕ) → IsGroup is_conflict (places n) g → (x : ℕ) → In x (places n) → In x g
  group_has_all g i x m = elim (i.maximal x (Contains-from_In x (places n) m)) [
    | inl l ↦ In-from_Contains x g l
    | inr c ↦ absurd (true≢false (sym c.2 ∙ free x c.0 m (inside_of g i c.0 (In-from_Contains c.0 g c.1))))
  ]

  pub groups_of_calm : groups_of is_conflict (places n) ≡ places n ∷ []
  groups_of_calm = only_one (places n) (groups_of is_conflict (places n)) (Once-groups_of is_conflict (places n) (Once-places n))
      (group_in is_conflict (places n) (places n) (Once-places n) all_is_group)
      (λ g m. let i = group_is is_conflict (places n) g m in
      sublist_same (places n) g (places n) (Once-places n) i.inside (whole (places n)) (λ x l. inside_of g i x l) (group_has_all g i))

  pub calm_groups : AreGroups is_conflict (places n) (places n ∷ [])
  calm_groups = subst (λ gs. IsPermutation (places n ∷ []) gs) (sym groups_of_calm) (IsPermutation-refl (places n ∷ []))

  pub calm_count : count_of_groups is_conflict n ≡ 1
  calm_count = ap length groups_of_calm

-- there is a group
pub some_group : (is_conflict : ℕ → ℕ → Bool) (name : ℕ → Name) (n : ℕ) (gs : List (List ℕ)) → IsRelation n name is_conflict → AreGroups is_conflict (places n) gs → 0 < length gs
unfolding groups_of
some_group is_conflict name n gs r are =
    let least : 1 ≤ length (groups_of is_conflict (places n)) = count_of_part is_conflict n [] tt (λ k d l. absurd (omega arith)) r.both_ways r.never_alone in
    let as_many = length_permutation gs (groups_of is_conflict (places n)) are in
    omega (arith, least, as_many)
