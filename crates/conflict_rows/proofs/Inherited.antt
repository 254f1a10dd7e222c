-- What conflicts with a change of a base conflicts with what has that base: so one change may stand for its base, and few rows are looked at.
use Rattle.std.proofs.Common.{◌≡◌, ℕ, zero, suc, ◌<◌, ◌≤◌, Bool, true, false, not, ◌&&◌, ◌||◌, List, [], ◌∷◌, length, drop, get_or, refl, sym, ap, ◌∙◌, subst, inl, inr, arith, eqb}
use Rattle.std.specs.Prelude.{filter, nat_lt, All}
use Rattle.std.specs.List.{AllWithin, list_any}
use Rattle.std.specs.List.Sorted.{IsNonDecreasingBy}
use Rattle.std.proofs.lemmas.Bool.{and_from, and_parts, cases_Bool, eqb-true, false_from_ne_true, lt-ltb, not_from_false, or_cases, or_left, or_right, true≢false}
use Rattle.std.proofs.lemmas.List.FromFn.{get_or-range_with_len, length-range_with_len}
use Rattle.std.proofs.lemmas.List.Kept.{IsNonDecreasingBy-filter}
use Rattle.base_types.specs.Names.{Name}
use Rattle.rules.specs.declared.history.Op.{Op}
use Rattle.rules.specs.Conflicts.{base, conflict, direct_conflict, members, with_base}
use Rattle.rules.proofs.Lists.{In, In-filter, In-filter_back, any_back, any_from, filter_agree}
use Rattle.rules.proofs.Relation.{conflict_symmetric, same_answer}
use Rattle.places.specs.steps.PlaceSet.{has, is_within, places, with_place}
use Rattle.places.specs.steps.Changes.{AreChangesOf, at, base_places, is_conflict_of}
use Rattle.places.proofs.ChangesAt.{any-places_of, at_in}
use Rattle.places.proofs.Growth.{apart, base_inside, conflict_from_base_on}
use Rattle.places.proofs.Places.{below, has_if_in, in_all, in_if_has, within_back}
use Rattle.places.proofs.WordPlaces.{has-with_place}
use Rattle.conflict_rows.specs.steps.Rows.{conflicts_below, is_in_row, with_row, with_rows}
use Rattle.conflict_rows.proofs.InConflict.{conflicting_at}

-- ---- rows of earlier places

-- the rows of places below all of the scope add nothing to no place
pub skipped : (scope : List ℕ) (rows : List (List ℕ)) (lowest : ℕ) → All (λ s. lowest ≤ s) scope
    → ((p : ℕ) → p < lowest → (x : ℕ) → In x (get_or rows p []) → x < p)
    → (late : List ℕ) (start : ℕ) → AllWithin (λ p. p < lowest) late 0 start → with_rows scope rows [] (drop start late) ≡ with_rows scope rows [] late
skipped scope rows lowest low earlier [] zero first = refl
skipped scope rows lowest low earlier [] (suc start) first = refl
skipped scope rows lowest low earlier (p ∷ ps) zero first = refl
skipped scope rows lowest low earlier (p ∷ ps) (suc start) first =
    let l : p < lowest = first 0 p (omega arith) (omega arith) in
    let away : (x : ℕ) → x < lowest → has scope x ≡ false = λ x b. false_from_ne_true (has scope x) (λ t.
    let least = in_all (λ s. lowest ≤ s) scope low x (in_if_has scope x t) in omega (arith, b, least)) in
    let none : list_any (has scope) (get_or rows p []) ≡ false = false_from_ne_true (list_any (has scope) (get_or rows p [])) (λ t.
    let c = any_back (has scope) (get_or rows p []) t in
    let b = earlier p l c.0 c.1 in
    true≢false (sym c.2 ∙ away c.0 (omega (arith, b, l)))) in
    let adds_none : with_row scope (get_or rows p []) p [] ≡ [] = rw (away p l, none) refl in
    skipped scope rows lowest low earlier ps start (λ k d from b. first (suc k) d (omega arith) (omega (arith, b)))
    ∙ ap (λ (found : List ℕ). with_rows scope rows found ps) (sym adds_none)

-- the places that pass a test rise
pub late_rises : (test : ℕ → Bool) (n : ℕ) (late : List ℕ) → late ≡ filter test (places n) → IsNonDecreasingBy (λ place. place) late
late_rises test n late e = subst (IsNonDecreasingBy (λ place. place)) (sym e) (IsNonDecreasingBy-filter (λ place. place) test (places n) (λ i j d le below.
    let size = length-range_with_len 0 n in
    let first = get_or-range_with_len 0 n i d (omega (arith, le, below, size)) in
    let second = get_or-range_with_len 0 n j d (omega (arith, below, size)) in
    omega (arith, first, second, le)))

-- ---- a change stands for its base

module _ {object : Name} (k : List Op) (w : AreChangesOf object k) where
  -- a change conflicts with what one of its base conflicts with
  inherits : (m p other : ℕ) → m < length k → p < length k → In other (base_places k (at k m)) → conflict k (at k other) (at k p) ≡ true → conflict k (at k m) (at k p) ≡ true
  inherits m p other l b i e =
      let g = members (base k (at k m)) in
      let one : list_any (λ x. conflict k x (at k p)) g ≡ true =
      sym (any-places_of k g (apart w) (base_inside k (at k m)) (λ x. conflict k x (at k p))) ∙ any_from (λ q. conflict k (at k q) (at k p)) other (base_places k (at k m)) i e in
      conflict_from_base_on w (at k m) (at k p) (at_in k m l) (at_in k p b) ∙ or_right (list_any (direct_conflict (at k m)) (with_base (base k) (at k p))) _ one

  pub stands_for_all : (based : List ℕ) (last : ℕ) → All (λ other. other < length k) based → has based last ≡ true → is_within based (with_place last (base_places k (at k last))) ≡ true
      → filter (conflicts_below (is_conflict_of k) (last ∷ []) (length k)) (places (length k)) ≡ filter (conflicts_below (is_conflict_of k) based (length k)) (places (length k))
  stands_for_all based last low there within =
      let n = length k in
      let l : last < n = in_all (λ other. other < n) based low last (in_if_has based last there) in
      let test : ℕ → ℕ → Bool = λ x s. (nat_lt s n && nat_lt x n) && conflict k (at k x) (at k s) in
      filter_agree (conflicts_below (is_conflict_of k) (last ∷ []) n) (conflicts_below (is_conflict_of k) based n) (places n) (λ x m.
      let b : x < n = below n x m in
      same_answer (list_any (test x) (last ∷ [])) (list_any (test x) based)
      (λ e. let c = any_back (test x) (last ∷ []) e in elim c.1 [
        | inl s ↦ any_from (test x) last based (in_if_has based last there) (ap (test x) (sym s) ∙ c.2)
        | inr none ↦ absurd none
      ])
      (λ e. let c = any_back (test x) based e in
      let i = in_if_has (with_place last (base_places k (at k last))) c.0 (has_if_in _ c.0 (within_back based (with_place last (base_places k (at k last))) within c.0 c.1)) in
      let found : conflict k (at k x) (at k last) ≡ true = elim (or_cases (has (base_places k (at k last)) c.0) (eqb last c.0) (sym (has-with_place last (base_places k (at k last)) c.0) ∙ has_if_in _ c.0 i)) [
        | inl h ↦ conflict_symmetric k (at k x) (at k last) ∙ inherits last x c.0 l b (in_if_has (base_places k (at k last)) c.0 h) (conflict_symmetric k (at k c.0) (at k x) ∙ (and_parts (nat_lt c.0 n && nat_lt x n) (conflict k (at k x) (at k c.0)) c.2).1)
        | inr q ↦ ap (λ s. conflict k (at k x) (at k s)) (eqb-true last c.0 q) ∙ (and_parts (nat_lt c.0 n && nat_lt x n) (conflict k (at k x) (at k c.0)) c.2).1
      ] in
      any_from (test x) last (last ∷ []) (inl refl) (and_from (nat_lt last n && nat_lt x n) (conflict k (at k x) (at k last)) (and_from (nat_lt last n) (nat_lt x n) (lt-ltb last n l) (lt-ltb x n b)) found)))

  -- of the direct conflicts only those count that the base is in no conflict with
  pub other_conflicts : (direct others based conflicting : List ℕ) → All (λ place. place < length k) direct → All (λ other. other < length k) based
      → others ≡ filter (λ place. not (has conflicting place)) direct
      → conflicting ≡ filter (conflicts_below (is_conflict_of k) based (length k)) (places (length k))
      → filter (is_in_row k others based) (places (length k)) ≡ filter (is_in_row k direct based) (places (length k))
  other_conflicts direct others based conflicting inside low are found =
      let n = length k in
      let of_base : ℕ → Bool = λ p. list_any (λ other. conflict k (at k other) (at k p)) based in
      let is_found : (p : ℕ) → p < n → has conflicting p ≡ of_base p = λ p l. conflicting_at k based conflicting p low l found in
      filter_agree (is_in_row k others based) (is_in_row k direct based) (places n) (λ p m.
      let l : p < n = below n p m in
      let near : ℕ → Bool = has (p ∷ base_places k (at k p)) in
      same_answer (list_any near others || of_base p) (list_any near direct || of_base p)
      (λ e. elim (or_cases (list_any near others) (of_base p) e) [
        | inl a ↦ (let c = any_back near others a in
            or_left (list_any near direct) (of_base p) (any_from near c.0 direct (In-filter_back (λ place. not (has conflicting place)) c.0 direct (subst (In c.0) are c.1)).0 c.2))
        | inr a ↦ or_right (list_any near direct) (of_base p) a
      ])
      (λ e. elim (or_cases (list_any near direct) (of_base p) e) [
        | inr a ↦ or_right (list_any near others) (of_base p) a
        | inl a ↦ (let c = any_back near direct a in
            let d : c.0 < n = in_all (λ place. place < n) direct inside c.0 c.1 in
            elim (cases_Bool (has conflicting c.0)) [
              | inr f ↦ or_left (list_any near others) (of_base p) (any_from near c.0 others (subst (In c.0) (sym are) (In-filter (λ place. not (has conflicting place)) c.0 direct c.1 (not_from_false (has conflicting c.0) f))) c.2)
              | inl t ↦
                  (let s = any_back (λ other. conflict k (at k other) (at k c.0)) based (sym (is_found c.0 d) ∙ t) in
                  let b : s.0 < n = in_all (λ other. other < n) based low s.0 s.1 in
                  or_right (list_any near others) (of_base p) (any_from (λ other. conflict k (at k other) (at k p)) s.0 based s.1 (elim (or_cases (eqb p c.0) (has (base_places k (at k p)) c.0) c.2) [
                    | inl q ↦ ap (λ z. conflict k (at k s.0) (at k z)) (eqb-true p c.0 q) ∙ s.2
                    | inr h ↦ conflict_symmetric k (at k s.0) (at k p) ∙ inherits p s.0 c.0 l b (in_if_has (base_places k (at k p)) c.0 h) (conflict_symmetric k (at k c.0) (at k s.0) ∙ s.2)
                  ])))
            ])
      ]))
