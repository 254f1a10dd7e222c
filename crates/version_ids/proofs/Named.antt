-- Whether an identifier has a name: what a binary search answers, since its names rise.
use Rattle.std.proofs.Common.{◌≡◌, ℕ, zero, suc, ◌+◌, ◌<◌, ◌≤◌, true, false, List, [], ◌∷◌, length, get_or, refl, sym, ap, ◌∙◌, subst, inl, inr, arith, eqb}
use Rattle.std.specs.Prelude.{Result, Ok, Err, filter}
use Rattle.std.specs.Result.{is_ok}
use Rattle.std.specs.List.{list_any}
use Rattle.std.specs.List.Sorted.{IsBinarySearchResult, IsSearchInRange, IsSortedBy}
use Rattle.std.specs.Ordering.{is_lt, ordering_reverse}
use Rattle.std.specs.declared.cmp.Ordering.{Ordering}
use Rattle.std.specs.declared.cmp.Ordering.TheVariants.{Less, Equal, Greater}
use Rattle.std.proofs.lemmas.Bool.{true≢false, false_from_ne_true, and_parts, cases_lt, eqb-true}
use Rattle.std.proofs.lemmas.Cmp.{tied_itself}
use Rattle.std.proofs.lemmas.List.{nil_from_length}
use Rattle.std.proofs.lemmas.List.Sorted.{searchable_from_sorted}
use Rattle.base_types.specs.Names.{Name, name_cmp, same_name}
use Rattle.base_types.specs.VersionIds.{names_rise}
use Rattle.rules.specs.steps.NamedGroups.{is_named}
use Rattle.rules.proofs.Counted.{same_name-true, same_name-refl}
use Rattle.rules.proofs.Lists.{In, In-from_Contains, Contains-from_In, any_from, any_back}
use Rattle.rules.proofs.Orders.{name_cmp_total, tied}

turned : (o : Ordering) → is_lt o ≡ true → is_lt (ordering_reverse o) ≡ false
turned Less e = refl
turned Equal e = absurd (true≢false (sym e))
turned Greater e = absurd (true≢false (sym e))

one_more : (m n : Name) (ns : List Name) → is_lt (name_cmp m n) ≡ true → IsSortedBy (λ a b. is_lt (name_cmp a b)) (n ∷ ns) → IsSortedBy (λ a b. is_lt (name_cmp a b)) (m ∷ n ∷ ns)
one_more m n ns l s = each
  where
    each : (k : ℕ) (d : Name) → 0 ≤ k → k + 1 < length (m ∷ n ∷ ns) → is_lt (name_cmp (get_or (m ∷ n ∷ ns) (k + 1) d) (get_or (m ∷ n ∷ ns) k d)) ≡ false
    each zero d low high = ap is_lt (name_cmp_total.antisymm n m) ∙ turned (name_cmp m n) l
    each (suc k) d low high =
        let next : suc (k + 1) ≡ suc k + 1 = omega arith in
        subst (λ i. is_lt (name_cmp (get_or (m ∷ n ∷ ns) i d) (get_or (n ∷ ns) k d)) ≡ false) next (s k d (omega arith) (omega (arith, high)))

sorted : (ns : List Name) → names_rise ns ≡ true → IsSortedBy (λ a b. is_lt (name_cmp a b)) ns
unfolding names_rise
sorted [] e = λ k d low high. absurd (omega arith)
sorted (m ∷ []) e = λ k d low high. absurd (omega arith)
sorted (m ∷ n ∷ ns) e =
    let parts = and_parts (is_lt (name_cmp m n)) (names_rise (n ∷ ns)) e in
    one_more m n ns parts.0 (sorted (n ∷ ns) parts.1)

pub named : (xs : List Name) (x : Name) (r : Result ℕ ℕ) → names_rise xs ≡ true → IsSearchInRange r (length xs) → IsBinarySearchResult (λ y. name_cmp y x) xs r → is_ok r ≡ is_named (λ n. n) xs x
named xs x (Ok i) up within h = sym (any_from (same_name x) x xs (In-from_Contains x xs (i, within, tied (get_or xs i x) x (h x))) (same_name-refl x x refl))
named xs x (Err i) up within h = sym (false_from_ne_true (list_any (same_name x) xs) (λ e.
    let c = any_back (same_name x) xs e in
    let m = Contains-from_In x xs (subst (λ z. In z xs) (sym (same_name-true x c.0 c.2)) c.1) in
    let parted = h (searchable_from_sorted name_cmp_total (λ (n : Name). n) xs x (sorted xs up)) in
    let equal : name_cmp (get_or xs m.0 x) x ≡ Equal = ap (λ z. name_cmp z x) m.2 ∙ tied_itself name_cmp_total x in
    elim (cases_lt m.0 i) [
      | inl l ↦ (let p : Less ≡ Equal = sym (parted.0 m.0 x (omega arith) l) ∙ equal in cc)
      | inr g ↦ (let p : Greater ≡ Equal = sym (parted.1 m.0 x g m.1) ∙ equal in cc)
    ]))

pub empty_if : (xs : List Name) → eqb (length xs) 0 ≡ true → xs ≡ []
empty_if xs e = nil_from_length xs (eqb-true (length xs) 0 e)

-- no place has one of no names
pub none_named : (name : ℕ → Name) (id : List Name) (s made : List ℕ) → made ≡ [] → id ≡ [] → made ≡ filter (is_named name id) s
none_named name id s made e f = e ∙ sym (ap (λ l. filter (is_named name l) s) f ∙ nothing s)
  where
    nothing : (xs : List ℕ) → filter (is_named name []) xs ≡ []
    nothing [] = refl
    nothing (x ∷ xs) = nothing xs
