-- The places that a change that is to be added is in direct conflict with: those of unknown changes at odds with it.
use Rattle.std.proofs.Common.{◌≡◌, ℕ, ◌<◌, ◌≤◌, Bool, true, false, not, ◌&&◌, ◌||◌, List, [], ◌∷◌, ◌++◌, length, refl, sym, ap, subst, cond, eqb, ◌+◌, ◌∙◌, inl, inr, arith}
use Rattle.std.specs.Prelude.{filter, nat_lt, All}
use Rattle.std.specs.List.{list_any}
use Rattle.std.proofs.lemmas.Bool.{and_right, true≢false, cases_Bool, cases_lt, cases_order, eq-eqb, ne_eqb, lt-ltb, le-ltb, or_right, false_from_ne_true}
use Rattle.base_types.specs.Vectors.{counts}
use Rattle.base_types.specs.Names.{Name}
use Rattle.rules.specs.declared.history.Op.{Op}
use Rattle.rules.specs.Bodies.{are_at_odds}
use Rattle.rules.specs.steps.Histories.{same_op}
use Rattle.rules.specs.Conflicts.{base, conflict, direct_conflict, members}
use Rattle.rules.proofs.Counted.{same_name-true}
use Rattle.rules.proofs.Lists.{any_back, filter_agree}
use Rattle.rules.proofs.Changes.{in_known_back}
use Rattle.places.specs.steps.PlaceSet.{has, with_place, places, with_places, with_those}
use Rattle.conflict_rows.specs.steps.Rows.{conflicts_below, is_in_row, places_outside}
use Rattle.places.specs.steps.Changes.{AreChangesOf, at, is_conflict_of, base_places, places_counted}
use Rattle.places.proofs.Places.{In-places, below, has_if_in, in_if_has, has-filter, has-filter_past, in_all}
use Rattle.places.proofs.ChangesAt.{has-places_of}
use Rattle.places.proofs.WordPlaces.{Up, same_set, up_range, up_filter, up_with_place, up_with_all, has-with_place, has-with_all, has-kept, or_turned, with_those-filter}
use Rattle.places.proofs.Growth.{base_within, never_before}
use Rattle.conflict_rows.proofs.Rows.{direct_if_known, direct_if_unknown}
use Rattle.conflict_rows.proofs.InConflict.{conflicting_at}

module _ {object : Name} (k : List Op) (o : Op) (w : AreChangesOf object (k ++ o ∷ [])) where
  abbrev is_direct : ℕ → Bool
  is_direct p = direct_conflict o (at k p)

  abbrev at_odds : ℕ → Bool
  at_odds p = are_at_odds o.body (at k p).body

  abbrev counted : ℕ → Bool
  counted p = counts o.seen (at k p).name

  abbrev unknown : ℕ → Bool
  unknown p = not (has (places_counted k o.seen) p)

  abbrev unknown_at_odds : List ℕ
  unknown_at_odds = filter at_odds (filter unknown (places (length k)))

  has_place : (x : ℕ) → x < length k → has (places (length k)) x ≡ true
  has_place x l = has_if_in (places (length k)) x (In-places (length k) x l)

  has_no_place : (x : ℕ) → length k ≤ x → has (places (length k)) x ≡ false
  has_no_place x g = elim (cases_Bool (has (places (length k)) x)) [
    | inl t ↦ (let l = below (length k) x (in_if_has (places (length k)) x t) in absurd (omega arith))
    | inr f ↦ f
  ]

  each : (x : ℕ) → ((has (places (length k)) x && unknown x) && at_odds x) ≡ has (filter is_direct (places (length k))) x
  each x = elim (cases_lt x (length k)) [
    | inl l ↦ elim (cases_Bool (counted x)) [
      | inl t ↦ rw (has_place x l, has-filter counted (length k) x l ∙ t) (sym (has-filter is_direct (length k) x l ∙ direct_if_known k o w x t))
      | inr t ↦ rw (has_place x l, has-filter counted (length k) x l ∙ t) (direct_if_unknown k o w x l t ∙ sym (has-filter is_direct (length k) x l))
    ]
    | inr g ↦ rw (has_no_place x g) (sym (has-filter_past is_direct (length k) x g))
  ]

  same_each : (x : ℕ) → has (with_places [] unknown_at_odds) x ≡ has (filter is_direct (places (length k))) x
  same_each x =
      has-with_all [] unknown_at_odds x
      ∙ has-kept at_odds (filter unknown (places (length k))) x
      ∙ ap (λ b. b && at_odds x) (has-kept unknown (places (length k)) x)
      ∙ each x

  -- the direct conflicts that are not among some places
  pub direct_conflicts_beside : (candidates listed result beside : List ℕ) → filter at_odds candidates ≡ filter at_odds (places_outside (places_counted k o.seen) (length k)) → listed ≡ filter (λ place. not (has beside place)) candidates
      → result ≡ with_those at_odds [] listed → result ≡ filter (λ place. not (has beside place)) (filter is_direct (places (length k)))
  direct_conflicts_beside candidates listed result beside c l r =
      let other : ℕ → Bool = λ place. not (has beside place) in
      r ∙ with_those-filter at_odds [] listed ∙ ap (λ (xs : List ℕ). with_places [] (filter at_odds xs)) l
      ∙ same_set (with_places [] (filter at_odds (filter other candidates))) (filter other (filter is_direct (places (length k))))
      (up_with_all [] (filter at_odds (filter other candidates)) tt)
      (up_filter other (filter is_direct (places (length k))) (up_filter is_direct (places (length k)) (up_range 0 (length k))))
      (λ x.
      has-with_all [] (filter at_odds (filter other candidates)) x
      ∙ has-kept at_odds (filter other candidates) x
      ∙ ap (λ b. b && at_odds x) (has-kept other candidates x)
      ∙ turned (has candidates x) (other x) (at_odds x)
      ∙ ap (λ b. b && other x) (sym (has-kept at_odds candidates x) ∙ ap (λ (xs : List ℕ). has xs x) c ∙ sym (has-with_all [] unknown_at_odds x) ∙ same_each x)
      ∙ sym (has-kept other (filter is_direct (places (length k))) x))
    where
      turned : (a b c : Bool) → ((a && b) && c) ≡ ((a && c) && b)
      turned true true true = refl
      turned true true false = refl
      turned true false true = refl
      turned true false false = refl
      turned false b c = refl

-- ---- the row, from the direct conflicts and those of the base

-- is the change at a place in the row, where of those in direct conflict, themselves or by their bases, only the ones below n count?
abbrev pub row_below : List Op → List ℕ → List ℕ → ℕ → ℕ → Bool
row_below k direct based n place = (nat_lt place n && list_any (has (place ∷ base_places k (at k place))) direct) || list_any (λ other. conflict k (at k other) (at k place)) based

module _ {object : Name} (k : List Op) (w : AreChangesOf object k) where
  -- a change isn't based on a later one
  no_later : (p q : ℕ) → p < q → q < length k → list_any (same_op (at k q)) (members (base k (at k p))) ≡ false
  no_later p q l m = false_from_ne_true (list_any (same_op (at k q)) (members (base k (at k p)))) (λ t.
      let c = any_back (same_op (at k q)) (members (base k (at k p))) t in
      let same : (at k q).name ≡ c.0.name = same_name-true (at k q).name c.0.name c.2 in
      true≢false (sym (ap (counts (at k p).seen) same ∙ (in_known_back k (at k p) c.0 (base_within k (at k p) c.0 c.1)).earlier) ∙ never_before k w.ordered p q l m))

  not_in_base : (p q : ℕ) → p < q → has (p ∷ base_places k (at k p)) q ≡ false
  not_in_base p q l = rw (ne_eqb p q (λ (e : p ≡ q). omega arith)) (elim (cases_lt q (length k)) [
    | inl b ↦ has-places_of k (members (base k (at k p))) q b ∙ no_later p q l b
    | inr g ↦ has-filter_past (λ z. list_any (same_op (at k z)) (members (base k (at k p)))) (length k) q g
  ])

  module _ (direct based : List ℕ) where
    abbrev has_direct : ℕ → Bool
    has_direct p = list_any (has (p ∷ base_places k (at k p))) direct

    none_direct : (lowest p : ℕ) → All (λ place. lowest ≤ place) direct → p < lowest → has_direct p ≡ false
    none_direct lowest p low l = false_from_ne_true (has_direct p) (λ t.
        let c = any_back (has (p ∷ base_places k (at k p))) direct t in
        let b : lowest ≤ c.0 = in_all (λ place. lowest ≤ place) direct low c.0 c.1 in
        true≢false (sym c.2 ∙ not_in_base p c.0 (omega arith)))

    left_out : (a b : Bool) → a ≡ false → b ≡ (a || b)
    left_out true b e = absurd (true≢false e)
    left_out false b e = refl

    none_below_lowest : (lowest p : ℕ) → All (λ place. lowest ≤ place) direct → (nat_lt p lowest && has_direct p) ≡ false
    none_below_lowest lowest p low = elim (cases_lt p lowest) [
      | inl l ↦ rw (lt-ltb p lowest l) (none_direct lowest p low l)
      | inr g ↦ rw (le-ltb p lowest g) refl
    ]

    pub row_begun : (lowest : ℕ) (conflicting : List ℕ) → All (λ place. lowest ≤ place) direct → All (λ other. other < length k) based
        → conflicting ≡ filter (conflicts_below (is_conflict_of k) based (length k)) (places (length k)) → conflicting ≡ filter (row_below k direct based lowest) (places (length k))
    row_begun lowest conflicting low inside e = e ∙ filter_agree (conflicts_below (is_conflict_of k) based (length k)) (row_below k direct based lowest) (places (length k)) (λ p m.
        let l = below (length k) p m in
        sym (has-filter (conflicts_below (is_conflict_of k) based (length k)) (length k) p l) ∙ sym (ap (λ (r : List ℕ). has r p) e) ∙ conflicting_at k based conflicting p inside l e
        ∙ left_out (nat_lt p lowest && has_direct p) (list_any (λ other. conflict k (at k other) (at k p)) based) (none_below_lowest lowest p low))

    one_more : (p x : ℕ) (q : Bool) → has_direct p ≡ true → (((nat_lt x p && has_direct x) || q) || eqb p x) ≡ ((nat_lt x (p + 1) && has_direct x) || q)
    one_more p x q t = elim (cases_order x p) [
      | inl e ↦ (let b : x < p + 1 = omega arith in rw (le-ltb x p (omega arith), lt-ltb x (p + 1) b, eq-eqb p x (sym e), ap has_direct e ∙ t) (or_right (false || q) true refl))
      | inr c ↦ elim c [
        | inl l ↦ (let b : x < p + 1 = omega arith in rw (lt-ltb x p l, lt-ltb x (p + 1) b, ne_eqb p x (λ (e : p ≡ x). omega arith)) (or_turned (has_direct x || q) false))
        | inr g ↦ (let b : p + 1 ≤ x = omega arith in rw (le-ltb x p (omega arith), le-ltb x (p + 1) b, ne_eqb p x (λ (e : p ≡ x). omega arith)) (or_turned q false))
      ]
    ]

    none_more : (p x : ℕ) → has_direct p ≡ false → (nat_lt x p && has_direct x) ≡ (nat_lt x (p + 1) && has_direct x)
    none_more p x f = elim (cases_order x p) [
      | inl e ↦ rw (ap has_direct e ∙ f) (and_right (nat_lt x p) false refl ∙ sym (and_right (nat_lt x (p + 1)) false refl))
      | inr c ↦ elim c [
        | inl l ↦ (let b : x < p + 1 = omega arith in rw (lt-ltb x p l, lt-ltb x (p + 1) b) refl)
        | inr g ↦ (let b : p + 1 ≤ x = omega arith in rw (le-ltb x p (omega arith), le-ltb x (p + 1) b) refl)
      ]
    ]

    pub row_more : (p : ℕ) (old new : List ℕ) → p < length k → old ≡ filter (row_below k direct based p) (places (length k)) → new ≡ cond (has_direct p) (with_place p old) old
        → new ≡ filter (row_below k direct based (p + 1)) (places (length k))
    row_more p old new l e f = elim (cases_Bool (has_direct p)) [
      | inl t ↦ f ∙ ap (λ b. cond b (with_place p old) old) t
          ∙ same_set (with_place p old) (filter (row_below k direct based (p + 1)) (places (length k)))
          (up_with_place p old (subst Up (sym e) (up_filter (row_below k direct based p) (places (length k)) (up_range 0 (length k)))))
          (up_filter (row_below k direct based (p + 1)) (places (length k)) (up_range 0 (length k)))
          (λ x. has-with_place p old x ∙ ap (λ (r : List ℕ). has r x || eqb p x) e ∙ (elim (cases_lt x (length k)) [
            | inl b ↦ ap (λ r. r || eqb p x) (has-filter (row_below k direct based p) (length k) x b) ∙ one_more p x (list_any (λ other. conflict k (at k other) (at k x)) based) t ∙ sym (has-filter (row_below k direct based (p + 1)) (length k) x b)
            | inr g ↦ rw (has-filter_past (row_below k direct based p) (length k) x g, has-filter_past (row_below k direct based (p + 1)) (length k) x g, ne_eqb p x (λ (q : p ≡ x). omega arith)) refl
          ]))
      | inr t ↦ f ∙ ap (λ b. cond b (with_place p old) old) t ∙ e ∙ filter_agree (row_below k direct based p) (row_below k direct based (p + 1)) (places (length k)) (λ x m.
          ap (λ b. b || list_any (λ other. conflict k (at k other) (at k x)) based) (none_more p x t))
    ]

    pub row_done : (n : ℕ) (row : List ℕ) → length k ≤ n → row ≡ filter (row_below k direct based n) (places (length k)) → row ≡ filter (is_in_row k direct based) (places (length k))
    row_done n row l e = e ∙ filter_agree (row_below k direct based n) (is_in_row k direct based) (places (length k)) (λ x m.
        let b = below (length k) x m in
        ap (λ t. (t && has_direct x) || list_any (λ other. conflict k (at k other) (at k x)) based) (lt-ltb x n (omega arith)))

-- where no change is in direct conflict, those that the base is in conflict with are the row
pub row_if_none : (k : List Op) (based direct conflicting : List ℕ) → direct ≡ [] → All (λ other. other < length k) based
    → conflicting ≡ filter (conflicts_below (is_conflict_of k) based (length k)) (places (length k)) → conflicting ≡ filter (is_in_row k direct based) (places (length k))
row_if_none k based direct conflicting none low e = e ∙ filter_agree (conflicts_below (is_conflict_of k) based (length k)) (is_in_row k direct based) (places (length k)) (λ p m.
    let l = below (length k) p m in
    sym (has-filter (conflicts_below (is_conflict_of k) based (length k)) (length k) p l) ∙ sym (ap (λ (r : List ℕ). has r p) e) ∙ conflicting_at k based conflicting p low l e
    ∙ ap (λ (ms : List ℕ). is_in_row k ms based p) (sym none))
