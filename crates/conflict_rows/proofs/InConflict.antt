-- The places that are in conflict with one of some places, row by row.
use Rattle.std.proofs.Common.{◌≡◌, ℕ, zero, suc, ◌+◌, ◌<◌, ◌≤◌, Bool, true, false, ◌&&◌, ◌||◌, List, [], ◌∷◌, ◌++◌, length, map, get_or, refl, sym, ap, ◌∙◌, subst, inl, inr, arith, eqb, cond}
use Rattle.std.specs.Prelude.{filter, nat_lt, All}
use Rattle.std.specs.List.{list_any}
use Rattle.std.proofs.lemmas.Bool.{true≢false, cases_Bool, cases_lt, eq-eqb, eqb-true, ltb-false, ltb-true, lt-ltb, or_left, or_right, or_cases, and_parts, and_from, false_from_ne_true}
use Rattle.std.proofs.lemmas.List.{nil_from_length}
use Rattle.std.proofs.lemmas.List.FromFn.{length-range_with_len, get_or-range_with_len}
use Rattle.base_types.specs.Names.{Name}
use Rattle.rules.specs.declared.history.Op.{Op}
use Rattle.rules.specs.Groups.{in_conflict_with}
use Rattle.rules.specs.Conflicts.{conflict}
use Rattle.rules.proofs.Relation.{conflict_symmetric}
use Rattle.rules.proofs.Lists.{In, In-filter, In-filter_back, any_from, any_back, any_agree, Contains-from_In, filter_agree}
use Rattle.rules.proofs.Relation.{same_answer}
use Rattle.places.specs.steps.Changes.{is_conflict_of, Added, IsAddition, AreChangesOn, at, base_places, conflicting_places, new_conflicts}
use Rattle.places.proofs.Growth.{never_alone}
use Rattle.conflict_rows.proofs.Rows.{one_change_more, changes_with_addition, last_in_row, conflict_stays, row_found}
use Rattle.places.specs.steps.PlaceSet.{has, places, with_places}
use Rattle.conflict_rows.specs.steps.Rows.{conflicts_below, earlier_conflicts, has_earlier_conflict, places_with_earlier_conflict, with_conflicts, with_row, with_rows}
use Rattle.places.proofs.Places.{In-places, below, has_if_in, in_if_has, has-filter, has-filter_past, in_all, kept_next, left_next}
use Rattle.places.proofs.ChangesAt.{at_in}
use Rattle.places.proofs.WordPlaces.{Up, same_set, up_range, up_filter, up_with_place, up_with_all, has-with_place, has-with_all, or_turned}

-- none is in conflict with places that are not below n
pub none_with_others : (is_conflict : ℕ → ℕ → Bool) (scope : List ℕ) (n : ℕ) → All (λ s. n ≤ s) scope → (xs : List ℕ) → filter (conflicts_below is_conflict scope n) xs ≡ []
none_with_others is_conflict scope n above = nothing
  where
    fails : (x : ℕ) → conflicts_below is_conflict scope n x ≡ false
    fails x = false_from_ne_true (conflicts_below is_conflict scope n x) (λ t.
        let c = any_back (λ s. (nat_lt s n && nat_lt x n) && is_conflict x s) scope t in
        let a = and_parts (nat_lt c.0 n && nat_lt x n) (is_conflict x c.0) c.2 in
        let b = and_parts (nat_lt c.0 n) (nat_lt x n) a.0 in
        let l = ltb-true c.0 n b.0 in
        let g = in_all (λ s. n ≤ s) scope above c.0 c.1 in absurd (omega (arith, l, g)))

    nothing : (xs : List ℕ) → filter (conflicts_below is_conflict scope n) xs ≡ []
    nothing [] = refl
    nothing (x ∷ xs) = rw (fails x) (nothing xs)

-- none is below 0
pub none_below : (is_conflict : ℕ → ℕ → Bool) (scope : List ℕ) (n : ℕ) (found : List ℕ) → found ≡ [] → found ≡ filter (conflicts_below is_conflict scope 0) (places n)
none_below is_conflict scope n found e = e ∙ sym (none_with_others is_conflict scope 0 (λ i d l. omega arith) (places n))

module _ (is_conflict : ℕ → ℕ → Bool) (scope : List ℕ) where
  conflicts_below_from : (n x s : ℕ) → In s scope → s < n → x < n → is_conflict x s ≡ true → conflicts_below is_conflict scope n x ≡ true
  conflicts_below_from n x s m l k t = any_from (λ s. (nat_lt s n && nat_lt x n) && is_conflict x s) s scope m
      (and_from (nat_lt s n && nat_lt x n) (is_conflict x s) (and_from (nat_lt s n) (nat_lt x n) (lt-ltb s n l) (lt-ltb x n k)) t)

  conflicts_below_back : (n x : ℕ) → conflicts_below is_conflict scope n x ≡ true → (s : ℕ) × In s scope × (s < n) × (x < n) × (is_conflict x s ≡ true)
  conflicts_below_back n x e =
      let c = any_back (λ s. (nat_lt s n && nat_lt x n) && is_conflict x s) scope e in
      let a = and_parts (nat_lt c.0 n && nat_lt x n) (is_conflict x c.0) c.2 in
      let b = and_parts (nat_lt c.0 n) (nat_lt x n) a.0 in
      (c.0, c.1, ltb-true c.0 n b.0, ltb-true x n b.1, a.1)

  has_conflicts_below : (size n x : ℕ) → n ≤ size → has (filter (conflicts_below is_conflict scope n) (places size)) x ≡ conflicts_below is_conflict scope n x
  has_conflicts_below size n x l = elim (cases_lt x size) [
    | inl b ↦ has-filter (conflicts_below is_conflict scope n) size x b
    | inr g ↦ has-filter_past (conflicts_below is_conflict scope n) size x g ∙ sym (false_from_ne_true (conflicts_below is_conflict scope n x) (λ t. let b = conflicts_below_back n x t in let k = b.3 in absurd (omega arith)))
  ]

  -- all of them, where the scope is below n
  pub all_in_conflict : (n : ℕ) (found : List ℕ) → All (λ place. place < n) scope → found ≡ filter (conflicts_below is_conflict scope n) (places n) → found ≡ filter (in_conflict_with is_conflict scope) (places n)
  all_in_conflict n found low e = e ∙ filter_agree (conflicts_below is_conflict scope n) (in_conflict_with is_conflict scope) (places n) (λ x m.
      let l = below n x m in
      same_answer (conflicts_below is_conflict scope n x) (in_conflict_with is_conflict scope x)
      (λ t. let b = conflicts_below_back n x t in any_from (is_conflict x) b.0 scope b.1 b.4)
      (λ t. let b = any_back (is_conflict x) scope t in conflicts_below_from n x b.0 b.1 (let c = Contains-from_In b.0 scope b.1 in subst (λ z. z < n) c.2 (low c.0 b.0 c.1)) l b.2))

-- the row of one place more
module _ (is_conflict : ℕ → ℕ → Bool) (scope : List ℕ) (size p : ℕ) (row found : List ℕ) (within : p < size)
    (both_ways : (i j : ℕ) → i < size → j < size → is_conflict i j ≡ is_conflict j i) (alone : is_conflict p p ≡ false)
    (is_row : row ≡ filter (λ e. is_conflict p e) (places p)) (so_far : found ≡ filter (conflicts_below is_conflict scope p) (places size)) where
  abbrev joined : List ℕ
  joined = cond (has scope p) (with_places found row) found

  in_row : (x : ℕ) → x < p → is_conflict p x ≡ true → In x row
  in_row x l t = subst (In x) (sym is_row) (In-filter (λ e. is_conflict p e) x (places p) (In-places p x l) t)

  row_back : (x : ℕ) → In x row → (x < p) × (is_conflict p x ≡ true)
  row_back x m = let b = In-filter_back (λ e. is_conflict p e) x (places p) (subst (In x) is_row m) in (below p x b.0, b.1)

  has_joined : (x : ℕ) → has joined x ≡ (conflicts_below is_conflict scope p x || (has scope p && has row x))
  has_joined x = let h : has found x ≡ conflicts_below is_conflict scope p x = ap (λ (l : List ℕ). has l x) so_far ∙ has_conflicts_below is_conflict scope size p x (omega arith) in
      elim (cases_Bool (has scope p)) [
        | inl t ↦ rw (t, has-with_all found row x, h) refl
        | inr t ↦ rw (t, h) (or_turned false (conflicts_below is_conflict scope p x))
      ]

  up_joined : Up joined
  up_joined = let u : Up found = subst Up (sym so_far) (up_filter (conflicts_below is_conflict scope p) (places size) (up_range 0 size)) in
      elim (cases_Bool (has scope p)) [ inl t ↦ rw t (up_with_all found row u) | inr t ↦ rw t u ]

  has_next : (x : ℕ) → ((conflicts_below is_conflict scope p x || (has scope p && has row x)) || (list_any (has scope) row && eqb p x)) ≡ conflicts_below is_conflict scope (p + 1) x
  has_next x = same_answer ((conflicts_below is_conflict scope p x || (has scope p && has row x)) || (list_any (has scope) row && eqb p x)) (conflicts_below is_conflict scope (p + 1) x)
      (λ e. elim (or_cases (conflicts_below is_conflict scope p x || (has scope p && has row x)) (list_any (has scope) row && eqb p x) e) [
        | inl f ↦ elim (or_cases (conflicts_below is_conflict scope p x) (has scope p && has row x) f) [
          | inl g ↦ (let b = conflicts_below_back is_conflict scope p x g in let l = b.2 in let k = b.3 in conflicts_below_from is_conflict scope (p + 1) x b.0 b.1 (omega arith) (omega arith) b.4)
          | inr g ↦
              (let a = and_parts (has scope p) (has row x) g in
              let r = row_back x (in_if_has row x a.1) in
              let l = r.0 in
              conflicts_below_from is_conflict scope (p + 1) x p (in_if_has scope p a.0) (omega arith) (omega arith) (both_ways x p (omega arith) within ∙ r.1))
        ]
        | inr f ↦
            (let a = and_parts (list_any (has scope) row) (eqb p x) f in
            let q = eqb-true p x a.1 in
            let c = any_back (has scope) row a.0 in
            let r = row_back c.0 c.1 in
            let l = r.0 in
            conflicts_below_from is_conflict scope (p + 1) x c.0 (in_if_has scope c.0 c.2) (omega arith) (omega arith) (ap (λ z. is_conflict z c.0) (sym q) ∙ r.1))
      ])
      (λ e.
      let b = conflicts_below_back is_conflict scope (p + 1) x e in
      let s : ℕ = b.0 in
      let l : s < p + 1 = b.2 in
      let k : x < p + 1 = b.3 in
      let first = conflicts_below is_conflict scope p x in
      let second = has scope p && has row x in
      let third = list_any (has scope) row && eqb p x in
      elim (cases_lt s p) [
        | inl sl ↦ elim (cases_lt x p) [
          | inl xl ↦ or_left (first || second) third (or_left first second (conflicts_below_from is_conflict scope p x s b.1 sl xl b.4))
          | inr xg ↦
              (let q : p ≡ x = omega arith in
              or_right (first || second) third (and_from (list_any (has scope) row) (eqb p x) (any_from (has scope) s row (in_row s sl (ap (λ z. is_conflict z s) q ∙ b.4)) (has_if_in scope s b.1)) (eq-eqb p x q)))
        ]
        | inr sg ↦
            (let q : s ≡ p = omega arith in
            elim (cases_lt x p) [
              | inl xl ↦ or_left (first || second) third (or_right first second (and_from (has scope p) (has row x) (has_if_in scope p (subst (λ z. In z scope) q b.1)) (has_if_in row x (in_row x xl (both_ways p x within (omega arith) ∙ ap (is_conflict x) (sym q) ∙ b.4)))))
              | inr xg ↦
                  (let r : x ≡ p = omega arith in
                  absurd (true≢false (sym b.4 ∙ ap (λ z. is_conflict z s) r ∙ ap (is_conflict p) q ∙ alone)))
            ])
      ])

  pub row_joined : with_row scope row p found ≡ filter (conflicts_below is_conflict scope (p + 1)) (places size)
  row_joined = same_set (with_row scope row p found) (filter (conflicts_below is_conflict scope (p + 1)) (places size))
      (elim (cases_Bool (list_any (has scope) row)) [ inl t ↦ rw t (up_with_place p joined up_joined) | inr t ↦ rw t up_joined ])
      (up_filter (conflicts_below is_conflict scope (p + 1)) (places size) (up_range 0 size))
      (λ x. (elim (cases_Bool (list_any (has scope) row)) [
        | inl t ↦ rw t (has-with_place p joined x ∙ ap (λ b. b || eqb p x) (has_joined x) ∙ ap (λ b. (conflicts_below is_conflict scope p x || (has scope p && has row x)) || (b && eqb p x)) (sym t) ∙ has_next x)
        | inr t ↦ rw t (has_joined x ∙ or_turned false (conflicts_below is_conflict scope p x || (has scope p && has row x)) ∙ ap (λ b. (conflicts_below is_conflict scope p x || (has scope p && has row x)) || (b && eqb p x)) (sym t) ∙ has_next x)
      ]) ∙ sym (has_conflicts_below is_conflict scope size (p + 1) x (omega arith)))

-- one of some places is this one or in this list
pub direct_or_based : (p : ℕ) (base direct : List ℕ) → (has direct p || list_any (has base) direct) ≡ list_any (has (p ∷ base)) direct
direct_or_based p base [] = refl
direct_or_based p base (m ∷ ms) = same_answer (has (m ∷ ms) p || list_any (has base) (m ∷ ms)) (list_any (has (p ∷ base)) (m ∷ ms))
    (λ e. elim (or_cases (has (m ∷ ms) p) (list_any (has base) (m ∷ ms)) e) [
      | inl f ↦ any_from (has (p ∷ base)) p (m ∷ ms) (in_if_has (m ∷ ms) p f) (or_left (eqb p p) (has base p) (eq-eqb p p refl))
      | inr f ↦ (let c = any_back (has base) (m ∷ ms) f in any_from (has (p ∷ base)) c.0 (m ∷ ms) c.1 (or_right (eqb p c.0) (has base c.0) c.2))
    ])
    (λ e. let c = any_back (has (p ∷ base)) (m ∷ ms) e in elim (or_cases (eqb p c.0) (has base c.0) c.2) [
      | inl q ↦ or_left (has (m ∷ ms) p) (list_any (has base) (m ∷ ms)) (has_if_in (m ∷ ms) p (subst (λ z. In z (m ∷ ms)) (sym (eqb-true p c.0 q)) c.1))
      | inr h ↦ or_right (has (m ∷ ms) p) (list_any (has base) (m ∷ ms)) (any_from (has base) c.0 (m ∷ ms) c.1 h)
    ])

-- ---- the changes on an object

pub row_added : {object : Name} (k : List Op) → AreChangesOn object k → (scope : List ℕ) (p : ℕ) (row found : List ℕ) → p < length k
    → row ≡ earlier_conflicts k p → found ≡ filter (conflicts_below (is_conflict_of k) scope p) (places (length k))
    → with_row scope row p found ≡ filter (conflicts_below (is_conflict_of k) scope (p + 1)) (places (length k))
row_added k w scope p row found l r m =
    row_joined (is_conflict_of k) scope (length k) p row found l (λ i j _ _. conflict_symmetric k (at k i) (at k j)) (never_alone w (at k p) (at_in k p l)) r m

-- the rows that are empty add nothing
no_row : (scope : List ℕ) (p : ℕ) (found : List ℕ) → with_row scope [] p found ≡ found
no_row scope p found = elim (cases_Bool (has scope p)) [ inl t ↦ rw t refl | inr t ↦ rw t refl ]

empty_if : (xs : List ℕ) → nat_lt 0 (length xs) ≡ false → xs ≡ []
empty_if xs e = nil_from_length xs (let none = ltb-false 0 (length xs) e in omega arith)

with_rows-append : (scope : List ℕ) (rows : List (List ℕ)) (found xs ys : List ℕ) → with_rows scope rows found (xs ++ ys) ≡ with_rows scope rows (with_rows scope rows found xs) ys
with_rows-append scope rows found [] ys = refl
with_rows-append scope rows found (x ∷ xs) ys = with_rows-append scope rows (with_row scope (get_or rows x []) x found) xs ys

module _ {object : Name} (k : List Op) (w : AreChangesOn object k) (scope : List ℕ) (rows : List (List ℕ)) (rows_are : rows ≡ map (earlier_conflicts k) (places (length k))) where
  abbrev so_far : ℕ → List ℕ
  so_far n = with_rows scope rows [] (filter (has_earlier_conflict k) (places n))

  abbrev goal_at : ℕ → List ℕ
  goal_at n = filter (conflicts_below (is_conflict_of k) scope n) (places (length k))

  one_row : (n : ℕ) → n < length k → so_far n ≡ goal_at n → so_far (n + 1) ≡ goal_at (n + 1)
  one_row n l e = elim (cases_Bool (has_earlier_conflict k n)) [
    | inl t ↦ ap (with_rows scope rows []) (kept_next (has_earlier_conflict k) n t) ∙ with_rows-append scope rows [] (filter (has_earlier_conflict k) (places n)) (n ∷ [])
        ∙ row_added k w scope n (get_or rows n []) (so_far n) l (row_found k rows n [] rows_are l) e
    | inr t ↦ ap (with_rows scope rows []) (left_next (has_earlier_conflict k) n t) ∙ sym (no_row scope n (so_far n))
        ∙ row_added k w scope n [] (so_far n) l (sym (empty_if (earlier_conflicts k n) t)) e
  ]

  rows_up_to : (n : ℕ) → n ≤ length k → so_far n ≡ goal_at n
  rows_up_to zero l = none_below (is_conflict_of k) scope (length k) [] refl
  rows_up_to (suc n) l = let e : n + 1 ≡ suc n = omega arith in subst (λ m. so_far m ≡ goal_at m) e (one_row n (omega arith) (rows_up_to n (omega arith)))

  pub all_rows : (in_conflict : List ℕ) → in_conflict ≡ places_with_earlier_conflict k → with_rows scope rows [] in_conflict ≡ goal_at (length k)
  all_rows in_conflict e = ap (with_rows scope rows []) e ∙ rows_up_to (length k) (omega arith)

-- the places that are in conflict with a base
pub conflicting_at : (k : List Op) (based conflicting : List ℕ) (p : ℕ) → All (λ other. other < length k) based → p < length k
    → conflicting ≡ filter (conflicts_below (is_conflict_of k) based (length k)) (places (length k))
    → has conflicting p ≡ list_any (λ other. conflict k (at k other) (at k p)) based
conflicting_at k based conflicting p low l e =
    ap (λ (r : List ℕ). has r p) (all_in_conflict (is_conflict_of k) based (length k) conflicting low e)
    ∙ has-filter (in_conflict_with (is_conflict_of k) based) (length k) p l
    ∙ any_agree (is_conflict_of k p) (λ other. conflict k (at k other) (at k p)) based (λ x m. conflict_symmetric k (at k p) (at k x))

-- what is known of the first places, of a wider relation
lifted : (is_conflict more : ℕ → ℕ → Bool) (scope : List ℕ) (n size : ℕ) (found : List ℕ) → n ≤ size → ((i j : ℕ) → i < n → j < n → is_conflict i j ≡ more i j)
    → found ≡ filter (conflicts_below is_conflict scope n) (places n) → found ≡ filter (conflicts_below more scope n) (places size)
lifted is_conflict more scope n size found l same e =
    e ∙ same_set (filter (conflicts_below is_conflict scope n) (places n)) (filter (conflicts_below more scope n) (places size)) (up_filter (conflicts_below is_conflict scope n) (places n) (up_range 0 n)) (up_filter (conflicts_below more scope n) (places size) (up_range 0 size))
    (λ x.
    has_conflicts_below is_conflict scope n n x (omega arith)
    ∙ same_answer (conflicts_below is_conflict scope n x) (conflicts_below more scope n x)
    (λ t. let b = conflicts_below_back is_conflict scope n x t in conflicts_below_from more scope n x b.0 b.1 b.2 b.3 (sym (same x b.0 b.3 b.2) ∙ b.4))
    (λ t. let b = conflicts_below_back more scope n x t in conflicts_below_from is_conflict scope n x b.0 b.1 b.2 b.3 (same x b.0 b.3 b.2 ∙ b.4))
    ∙ sym (has_conflicts_below more scope size n x l))

module _ {object : Name} (k : List Op) (a : Added) (w : IsAddition object k a) (ops : List Op) (e : k ++ a.op ∷ [] ≡ ops) where
  pub row_is_of_last : a.row ≡ earlier_conflicts ops (length k)
  row_is_of_last = w.row ∙ filter_agree (λ p. conflict (k ++ a.op ∷ []) a.op (at k p)) (is_conflict_of ops (length k)) (places (length k)) (λ j m.
      let l = below (length k) j m in
      sym (ap (λ (r : List ℕ). has r j) w.row ∙ has-filter (λ p. conflict (k ++ a.op ∷ []) a.op (at k p)) (length k) j l)
      ∙ last_in_row k a w ops e (length k) j refl l)

  -- the earlier conflicts of a change stay
  pub row_stays : (i : ℕ) → i < length k → earlier_conflicts k i ≡ earlier_conflicts ops i
  row_stays i l = filter_agree (is_conflict_of k i) (is_conflict_of ops i) (places i) (λ j m. let b = below i j m in conflict_stays k a w ops e i j l (omega (arith, l, b)))

  conflicts_with_addition : (scope row first found : List ℕ) (last : ℕ) → All (λ place. place < length ops) scope → last ≡ length k → row ≡ a.row
      → first ≡ filter (conflicts_below (is_conflict_of k) scope (length k)) (places (length k)) → found ≡ with_row scope row last first
      → found ≡ filter (in_conflict_with (is_conflict_of ops) scope) (places (length ops))
  conflicts_with_addition scope row first found last low q r f m =
      let more = one_change_more k a w ops e in
      let n : ℕ = length k in
      let size : ℕ = length ops in
      let start = lifted (is_conflict_of k) (is_conflict_of ops) scope n size first (omega (arith, more)) (λ i j l h. conflict_stays k a w ops e i j l h) f in
      let next = row_added ops (changes_with_addition k a w ops e) scope n row first (omega (arith, more)) (r ∙ row_is_of_last) start in
      all_in_conflict (is_conflict_of ops) scope size found low (m ∙ ap (λ (v : ℕ). with_row scope row v first) q ∙ next ∙ ap (λ (v : ℕ). filter (conflicts_below (is_conflict_of ops) scope v) (places size)) (sym more))

-- all that conflict with some change, with one change more
pub conflicting_grow : {object : Name} (k : List Op) (o : Op) → AreChangesOn object (k ++ o ∷ []) → (base row : List ℕ) → base ≡ base_places k o → row ≡ new_conflicts k o
    → (old : List ℕ) → old ≡ conflicting_places k → with_conflicts row (length k) old ≡ conflicting_places (k ++ o ∷ [])
conflicting_grow {object} k o w base row b r old e =
    let n : ℕ = length k in
    let ops : List Op = k ++ o ∷ [] in
    let size : ℕ = length ops in
    let a : Added = record { op = o; base = base; row = row; conflicting = conflicting_places ops } in
    let ready : IsAddition object k a = record { changes = w; base = b; row = r; conflicting = refl } in
    let more : size ≡ n + 1 = one_change_more k a ready ops refl in
    let scope : List ℕ = places size in
    let first : old ≡ filter (conflicts_below (is_conflict_of k) scope n) (places n) =
    e ∙ filter_agree (in_conflict_with (is_conflict_of k) (places n)) (conflicts_below (is_conflict_of k) scope n) (places n) (λ x m.
    let l = below n x m in
    same_answer (in_conflict_with (is_conflict_of k) (places n) x) (conflicts_below (is_conflict_of k) scope n x)
    (λ t. let c = any_back (is_conflict_of k x) (places n) t in let h = below n c.0 c.1 in conflicts_below_from (is_conflict_of k) scope n x c.0 (In-places size c.0 (omega (arith, more, h))) h l c.2)
    (λ t. let c = conflicts_below_back (is_conflict_of k) scope n x t in any_from (is_conflict_of k x) c.0 (places n) (In-places n c.0 c.2) c.4)) in
    let here : has scope n ≡ true = has_if_in scope n (In-places size n (omega (arith, more))) in
    let low : All (λ place. place < size) scope = λ i d l. below size (get_or scope i d) (let p = get_or-range_with_len 0 size i d (omega (arith, length-range_with_len 0 size, l)) in subst (λ z. In z scope) (sym p) (In-places size (0 + i) (omega (arith, length-range_with_len 0 size, l)))) in
    conflicts_with_addition k a ready ops refl scope row old (with_conflicts row n old) n low refl refl first (same scope here (λ x m. has_if_in scope x (In-places size x (let h = in_row x m in omega (arith, more, h)))))
  where
    in_row : (x : ℕ) → In x row → x < length k
    in_row x m = below (length k) x (In-filter_back (λ p. conflict (k ++ o ∷ []) o (at k p)) x (places (length k)) (subst (In x) r m)).0

    any_of : (scope xs : List ℕ) (x : ℕ) → has scope x ≡ true → list_any (has scope) (x ∷ xs) ≡ true
    any_of scope xs x t = rw t refl

    same : (scope : List ℕ) → has scope (length k) ≡ true → ((x : ℕ) → In x row → has scope x ≡ true) → with_conflicts row (length k) old ≡ with_row scope row (length k) old
    same scope here inside = by_row row inside
      where
        by_row : (xs : List ℕ) → ((x : ℕ) → In x xs → has scope x ≡ true) → with_conflicts xs (length k) old ≡ with_row scope xs (length k) old
        by_row [] i = sym (no_row scope (length k) old)
        by_row (x ∷ xs) i = rw (here, any_of scope xs x (i x (inl refl))) refl

pub addition_is : (object : Name) (k : List Op) (o : Op) → AreChangesOn object (k ++ o ∷ []) → (base row conflicting : List ℕ) → base ≡ base_places k o → row ≡ new_conflicts k o
    → conflicting ≡ with_conflicts row (length k) (conflicting_places k) → IsAddition object k (record { op = o; base = base; row = row; conflicting = conflicting })
addition_is object k o w base row conflicting b r c =
    record { changes = w; base = b; row = r; conflicting = c ∙ conflicting_grow k o w base row b r (conflicting_places k) refl }
