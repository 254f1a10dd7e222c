-- An object of which no two changes conflict has one version.
use Rattle.std.proofs.Common.{◌≡◌, ℕ, false, List, [], ◌∷◌, length, map, sym, ap, ◌∙◌, subst, Option, Some, None}
use Rattle.std.specs.Prelude.{is_some}
use Rattle.std.proofs.lemmas.List.FromFn.{length-range_with_len}
use Rattle.base_types.specs.Names.{Name, name_cmp}
use Rattle.base_types.specs.VersionIds.{id_cmp}
use Rattle.rules.specs.declared.history.Op.{Op}
use Rattle.rules.specs.Bodies.{is_change_body}
use Rattle.rules.specs.Groups.{identifier}
use Rattle.rules.specs.Lists.{sort_by}
use Rattle.rules.specs.Versions.{versions}
use Rattle.places.specs.steps.PlaceSet.{places, IsLowest}
use Rattle.places.specs.steps.Changes.{at, conflicting_places, is_conflict_of, AreChangesOf}
use Rattle.version_groups.proofs.Calm.{calm_groups}
use Rattle.shape.specs.steps.GroupsAfter.{alone}
use Rattle.shape.specs.steps.Kept.{id_at, AreGroupsOf, AreNamedOf}
use Rattle.shape.proofs.Shown.{ids_at_places}

pub empty_if : (lowest : Option ℕ) (xs : List ℕ) → IsLowest lowest xs → is_some lowest ≡ false → xs ≡ []
empty_if None xs is e = is
empty_if (Some x) xs is e = absurd cc

module _ (k : List Op) (none : conflicting_places k ≡ []) where
  id_of_all : id_at k (places (length k)) ≡ []
  unfolding identifier
  id_of_all = ap (λ (s : List ℕ). sort_by name_cmp (map (λ i. (at k i).name) s)) none

  pub named_alone : (g : List ℕ) → g ≡ places (length k) → AreNamedOf k (alone g)
  named_alone g e = record {
    covered = ap length e ∙ length-range_with_len 0 (length k);
    groups_are = subst (λ (s : List ℕ). AreGroupsOf k (s ∷ [])) (sym e) (calm_groups (is_conflict_of k) (length k) none);
    ids_are = sym (ap (λ (s : List ℕ). id_at k s ∷ []) e ∙ ap (λ (i : List Name). i ∷ []) id_of_all);
  }

  pub ids_alone : (creation : Op) → is_change_body creation.body ≡ false → AreChangesOf creation.name k → [] ∷ [] ≡ map (λ version. version.id) (versions (creation ∷ k) creation.name)
  ids_alone creation created w =
      ap (λ (i : List Name). sort_by id_cmp (i ∷ [])) (sym id_of_all)
      ∙ ids_at_places creation k created w (places (length k) ∷ []) (calm_groups (is_conflict_of k) (length k) none)
