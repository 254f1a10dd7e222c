-- What conflicts with some places, by the earlier conflicts of those and its own.
use Rattle.std.proofs.Common.{◌≡◌, ℕ, ◌<◌, Bool, true, false, ◌&&◌, ◌||◌, List, [], ◌∷◌, sym, ap, ◌∙◌, inl, inr}
use Rattle.std.specs.Prelude.{filter, All}
use Rattle.std.specs.List.{list_any}
use Rattle.std.proofs.lemmas.Bool.{cases_Bool, cases_order, false_from_ne_true, or_cases, or_left, or_right, true≢false}
use Rattle.base_types.specs.Names.{Name}
use Rattle.rules.specs.Groups.{in_conflict_with}
use Rattle.rules.proofs.Lists.{In, In-filter, In-filter_back, any_back, any_from}
use Rattle.rules.proofs.Relation.{same_answer}
use Rattle.places.specs.steps.PlaceSet.{has, places, with_places}
use Rattle.places.specs.steps.Relations.{places_in_conflict, IsRelation}
use Rattle.places.proofs.Places.{In-places, has-filter, has_if_in, in_all, in_if_has}
use Rattle.places.proofs.WordPlaces.{has-with_all, or_grouped, or_turned}
use Rattle.version_ids.specs.steps.Scopes.{with_earlier_conflicts}

module _ (is_conflict : ℕ → ℕ → Bool) where
  abbrev row : ℕ → List ℕ
  row p = filter (is_conflict p) (places p)

  has-with_earlier : (set scope : List ℕ) (x : ℕ) → has (with_earlier_conflicts is_conflict set scope) x ≡ (has set x || list_any (λ p. has (row p) x) scope)
  has-with_earlier set [] x = or_turned false (has set x)
  has-with_earlier set (p ∷ ps) x =
      has-with_earlier (with_places set (row p)) ps x ∙ rw (has-with_all set (row p) x) (sym (or_grouped (has set x) (has (row p) x) (list_any (λ q. has (row q) x) ps)))

  -- what conflicts with a place is among the places in conflict
  pub in_conflict_if : (n : ℕ) (x y : ℕ) → x < n → y < n → is_conflict x y ≡ true → has (places_in_conflict is_conflict n) x ≡ true
  in_conflict_if n x y l m t = has-filter (in_conflict_with is_conflict (places n)) n x l ∙ any_from (is_conflict x) y (places n) (In-places n y m) t

  pub conflicts_among : (n : ℕ) (name : ℕ → Name) → IsRelation n name is_conflict → (scope listed earlier : List ℕ) → All (λ place. place < n) scope → listed ≡ filter (has (places_in_conflict is_conflict n)) scope → earlier ≡ with_earlier_conflicts is_conflict [] listed
      → (x : ℕ) → x < n → (has earlier x || list_any (has scope) (row x)) ≡ in_conflict_with is_conflict scope x
  conflicts_among n name r scope listed earlier low f e x l =
      let all = places_in_conflict is_conflict n in
      let h : has earlier x ≡ list_any (λ p. has (row p) x) (filter (has all) scope) = ap (λ (s : List ℕ). has s x) e ∙ has-with_earlier [] listed x ∙ ap (list_any (λ p. has (row p) x)) f in
      same_answer (has earlier x || list_any (has scope) (row x)) (in_conflict_with is_conflict scope x)
      (λ t. elim (or_cases (has earlier x) (list_any (has scope) (row x)) t) [
        | inl a ↦ (let c = any_back (λ p. has (row p) x) (filter (has all) scope) (sym h ∙ a) in
            let m : In c.0 scope = (In-filter_back (has all) c.0 scope c.1).0 in
            let b : c.0 < n = in_all (λ place. place < n) scope low c.0 m in
            any_from (is_conflict x) c.0 scope m (r.both_ways x c.0 l b ∙ (In-filter_back (is_conflict c.0) x (places c.0) (in_if_has (row c.0) x c.2)).1))
        | inr a ↦ (let c = any_back (has scope) (row x) a in
            any_from (is_conflict x) c.0 scope (in_if_has scope c.0 c.2) (In-filter_back (is_conflict x) c.0 (places x) c.1).1)
      ])
      (λ t.
      let c = any_back (is_conflict x) scope t in
      let b : c.0 < n = in_all (λ place. place < n) scope low c.0 c.1 in
      elim (cases_order x c.0) [
        | inl q ↦ absurd (true≢false (sym c.2 ∙ ap (is_conflict x) (sym q) ∙ r.never_alone x l))
        | inr o ↦ elim o [
          | inl f ↦ or_left (has earlier x) (list_any (has scope) (row x)) (h ∙ any_from (λ p. has (row p) x) c.0 (filter (has all) scope) (In-filter (has all) c.0 scope c.1 (in_conflict_if n c.0 x b l (r.both_ways c.0 x b l ∙ c.2))) (has_if_in (row c.0) x (In-filter (is_conflict c.0) x (places c.0) (In-places c.0 x f) (r.both_ways c.0 x b l ∙ c.2))))
          | inr g ↦ or_right (has earlier x) (list_any (has scope) (row x)) (any_from (has scope) c.0 (row x) (In-filter (is_conflict x) c.0 (places x) (In-places x c.0 g) c.2) (has_if_in scope c.0 c.1))
        ]
      ])

  -- and so it is enough to ask those in conflict with some place
  pub listed_conflicts : (n : ℕ) (scope : List ℕ) → All (λ place. place < n) scope → (x : ℕ) → x < n → (test : Bool) → test ≡ in_conflict_with is_conflict scope x
      → (has (places_in_conflict is_conflict n) x && test) ≡ in_conflict_with is_conflict scope x
  listed_conflicts n scope low x l test e = elim (cases_Bool (has (places_in_conflict is_conflict n) x)) [
    | inl h ↦ rw h e
    | inr h ↦ rw h (sym (false_from_ne_true (in_conflict_with is_conflict scope x) (λ t.
        let c = any_back (is_conflict x) scope t in
        true≢false (sym (in_conflict_if n x c.0 l (in_all (λ place. place < n) scope low c.0 c.1) c.2) ∙ h))))
  ]
