-- Names in rising order.
use Rattle.std.proofs.Common.{◌≡◌, true, List, [], ◌∷◌, refl, ap, ◌∙◌, inl, inr}
use Rattle.std.specs.Ordering.{is_lt}
use Rattle.std.specs.declared.cmp.Ordering.TheVariants.{Less}
use Rattle.std.proofs.lemmas.Bool.{and_from, and_parts}
use Rattle.base_types.specs.Names.{Name, name_cmp}
use Rattle.base_types.specs.VersionIds.{names_rise}
use Rattle.rules.proofs.Orders.{name_cmp_total}
use Rattle.rules.proofs.Sorting.{Rises, less_if}

pub names_rise_if : (ns : List Name) → Rises name_cmp name_cmp_total ns → names_rise ns ≡ true
unfolding names_rise
names_rise_if [] r = refl
names_rise_if (m ∷ []) r = refl
names_rise_if (m ∷ n ∷ ns) r = and_from (is_lt (name_cmp m n)) (names_rise (n ∷ ns)) (ap is_lt (r.0 n (inl refl))) (names_rise_if (n ∷ ns) r.1)

pub rise_if_names_rise : (ns : List Name) → names_rise ns ≡ true → Rises name_cmp name_cmp_total ns
unfolding names_rise
rise_if_names_rise [] e = tt
rise_if_names_rise (m ∷ []) e = ((λ y none. absurd none), tt)
rise_if_names_rise (m ∷ n ∷ ns) e =
    let parts = and_parts (is_lt (name_cmp m n)) (names_rise (n ∷ ns)) e in
    let rest = rise_if_names_rise (n ∷ ns) parts.1 in
    let first : name_cmp m n ≡ Less = less_if name_cmp name_cmp_total m n parts.0 in
    ((λ y a. elim a [ inl q ↦ ap (name_cmp m) q ∙ first | inr r ↦ name_cmp_total.trans m n y first (rest.0 y r) ]), rest)
