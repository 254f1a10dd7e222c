-- Groups that are put in another order stay the groups of their changes.
use Rattle.std.proofs.Common.{◌≡◌, ℕ, ◌<◌, List, [], ◌∷◌, length, map, refl, sym, ap, ◌∙◌, subst}
use Rattle.std.specs.Prelude.{slice_index_or, slice_set}
use Rattle.std.specs.List.{swap}
use Rattle.std.proofs.lemmas.List.{get_or-map, map-set}
use Rattle.std.proofs.lemmas.List.Edits.{length-swap}
use Rattle.std.proofs.lemmas.List.Sorted.{IsPermutation-swap, IsPermutation-sym, IsPermutation-trans}
use Rattle.shape.specs.steps.Kept.{id_at, Named, Reordered}

pub reordered_none : (named : Named) → length named.ids ≡ length named.groups.groups → Reordered named named
reordered_none named each = record { count = refl; each = each; stay = λ k are. are }

pub reordered_more : (a b c : Named) → Reordered a b → Reordered b c → Reordered a c
reordered_more a b c r s = record { count = s.count ∙ r.count; each = s.each; stay = λ k are. s.stay k (r.stay k are) }

-- the values of a list with two of its members in each other's place
map_swap : {X Y : Type 0} (f : X → Y) (xs : List X) (i j : ℕ) → i < length xs → j < length xs → map f (swap xs i j) ≡ swap (map f xs) i j
map_swap f [] i j low high = refl
map_swap f (d ∷ ys) i j low high =
    let xs = d ∷ ys in
    map-set f (slice_set xs i (slice_index_or xs j d)) j (slice_index_or xs i d)
    ∙ ap (λ l. slice_set l j (f (slice_index_or xs i d))) (map-set f xs i (slice_index_or xs j d))
    ∙ ap (λ y. slice_set (slice_set (map f xs) i y) j (f (slice_index_or xs i d))) (sym (get_or-map f xs j d (f d) high))
    ∙ ap (λ y. slice_set (slice_set (map f xs) i (slice_index_or (map f xs) j (f d))) j y) (sym (get_or-map f xs i d (f d) low))

pub reordered_swap : (old new : Named) (i j : ℕ) → i < length old.ids → j < length old.ids → length old.ids ≡ length old.groups.groups
    → new.groups.ops ≡ old.groups.ops → new.groups.groups ≡ swap old.groups.groups i j → new.ids ≡ swap old.ids i j → Reordered old new
reordered_swap old new i j low high each o g e =
    let gs = old.groups.groups in
    let in_groups : (n : ℕ) → n < length old.ids → n < length gs = λ n l. subst (λ m. n < m) each l in
    record {
      count = ap length e ∙ length-swap old.ids i j;
      each = ap length e ∙ length-swap old.ids i j ∙ each ∙ sym (length-swap gs i j) ∙ sym (ap length g);
      stay = λ k are. record {
        covered = o ∙ are.covered;
        groups_are = IsPermutation-trans new.groups.groups gs _ (IsPermutation-sym gs new.groups.groups (IsPermutation-swap gs new.groups.groups i j (in_groups i low) (in_groups j high) g)) are.groups_are;
        ids_are = e ∙ ap (λ ids. swap ids i j) are.ids_are ∙ sym (map_swap (id_at k) gs i j (in_groups i low) (in_groups j high)) ∙ ap (map (id_at k)) (sym g);
      };
    }
