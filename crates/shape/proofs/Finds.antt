-- The group with an identifier is the one for which it is kept.
use Rattle.std.proofs.Common.{◌≡◌, ℕ, ◌<◌, Bool, List, [], length, map, refl, sym, ap, ◌∙◌, subst, Option, Some, None}
use Rattle.std.specs.Prelude.{slice_index_or}
use Rattle.std.proofs.lemmas.List.{get_or-map, length-map}
use Rattle.std.proofs.lemmas.List.Sorted.{IsPermutation-sym}
use Rattle.base_types.specs.Names.{Name}
use Rattle.rules.specs.Groups.{group_named, identifier}
use Rattle.rules.proofs.Groups.{group_is}
use Rattle.rules.proofs.Identifiers.{group_named_back, group_named_is}
use Rattle.rules.proofs.Lists.{Contains-from_In, In-from_Contains}
use Rattle.rules.proofs.Permutations.{in_permutation}
use Rattle.places.specs.steps.PlaceSet.{places}
use Rattle.places.specs.steps.Relations.{IsRelation}
use Rattle.places.proofs.Places.{Once-places, below}
use Rattle.version_groups.specs.steps.Kept.{AreGroups}
use Rattle.shape.proofs.Listing.{kept_is_group}

module _ (n : ℕ) (name : ℕ → Name) (is_conflict : ℕ → ℕ → Bool) (r : IsRelation n name is_conflict) (gs : List (List ℕ)) (are : AreGroups is_conflict (places n) gs) (ids : List (List Name)) (e : ids ≡ map (identifier is_conflict name (places n)) gs) (id : List Name) where
  pub found : (i : ℕ) → i < length ids → slice_index_or ids i [] ≡ id → Some (slice_index_or gs i []) ≡ group_named is_conflict name (places n) id
  found i there f =
      let low : i < length gs = subst (λ m. i < m) (ap length e ∙ length-map gs (identifier is_conflict name (places n))) there in
      let g = slice_index_or gs i [] in
      let same : identifier is_conflict name (places n) g ≡ id = sym (get_or-map (identifier is_conflict name (places n)) gs i [] [] low) ∙ sym (ap (λ l. slice_index_or l i []) e) ∙ f in
      sym ((group_named_is is_conflict name (places n) id g (λ x y m k q. r.one_each x y (below n x m) (below n y k) q) (Once-places n)).1
      (group_is is_conflict (places n) g (In-from_Contains g _ (kept_is_group is_conflict (places n) gs are i low)), same))

  pub not_found : ((i : ℕ) → i < length ids → slice_index_or ids i [] ≡ id → ⊥) → None ≡ group_named is_conflict name (places n) id
  not_found none = go (group_named is_conflict name (places n) id) refl
    where
      go : (found : Option (List ℕ)) → group_named is_conflict name (places n) id ≡ found → None ≡ group_named is_conflict name (places n) id
      go None p = sym p
      go (Some g) p =
          let c = group_named_back is_conflict name (places n) id g p in
          let m = Contains-from_In g gs (in_permutation g _ gs (IsPermutation-sym gs _ are) c.0) in
          let count : length ids ≡ length gs = ap length e ∙ length-map gs (identifier is_conflict name (places n)) in
          absurd (none m.0 (subst (λ k. m.0 < k) (sym count) m.1) (ap (λ l. slice_index_or l m.0 []) e ∙ get_or-map (identifier is_conflict name (places n)) gs m.0 g [] m.1 ∙ ap (identifier is_conflict name (places n)) m.2 ∙ c.1))
