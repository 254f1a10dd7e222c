-- The identifier of a group stays where none of its places comes newly into conflict.
use Rattle.std.proofs.Common.{◌≡◌, ℕ, ◌<◌, Bool, true, false, List, [], ◌∷◌, ◌++◌, length, map, not, refl, sym, ap, ◌∙◌, subst, arith, ◌⊎◌, inl, inr}
use Rattle.std.specs.Prelude.{All, filter, slice_index_or}
use Rattle.std.specs.List.{list_any}
use Rattle.std.proofs.lemmas.Bool.{and_parts, cases_Bool, false_from_ne_true, true≢false}
use Rattle.base_types.specs.Names.{Name, name_cmp}
use Rattle.base_types.specs.VersionIds.{names_rise}
use Rattle.rules.specs.declared.history.Op.{Op}
use Rattle.rules.specs.Groups.{identifier, in_conflict_with}
use Rattle.rules.specs.Lists.{sort_by}
use Rattle.rules.proofs.Names.{rise_if_names_rise}
use Rattle.rules.proofs.Lists.{In, In-filter, In-filter_back, any_from, any_back, any_none, filter_agree, map_agree, In-append_cases, In-append_left, In-append_right, In-map, In-map_back}
use Rattle.rules.proofs.Once.{Once-from_HasNoRepeats}
use Rattle.rules.proofs.Orders.{name_cmp_total, tied}
use Rattle.rules.proofs.Permutations.{in_permutation}
use Rattle.rules.proofs.Sorted.{untied_if_once}
use Rattle.rules.proofs.Sorting.{sort_back, sort_in, sort_is}
use Rattle.places.specs.steps.PlaceSet.{has, is_within, places}
use Rattle.places.specs.steps.Changes.{at, conflicting_places, is_conflict_of}
use Rattle.places.proofs.Places.{In-places, below, has-filter, has-filter_past, has_if_in, in_all, in_if_has}
use Rattle.places.proofs.Rising.{among_places}
use Rattle.places.specs.steps.Relations.{IsRelation}
use Rattle.version_ids.proofs.Found.{names_once}
use Rattle.std.proofs.lemmas.List.{append-nil, get_or-map, get_or_default, length-map, same_lists}
use Rattle.std.proofs.lemmas.List.Elements.{filter-append}
use Rattle.std.specs.List.Sorted.{IsPermutation, IsStrictlyIncreasing}
use Rattle.std.proofs.lemmas.List.Sorted.{IsPermutation-sym}
use Rattle.rules.proofs.Groups.{groups_agree}
use Rattle.version_groups.specs.steps.Kept.{AreGroups, HaveGrown}
use Rattle.shape.specs.steps.Kept.{id_at, AreGroupsOf, AreNamedOf, GoesOn, Named}
use Rattle.shape.proofs.Listing.{kept_below}

-- where all of these are among the others, none is outside
pub none_outside : (a b : List ℕ) → is_within a b ≡ true → [] ≡ filter (λ x. not (has b x)) a
none_outside [] b t = refl
none_outside (x ∷ a) b t =
    let parts = and_parts (has b x) (is_within a b) t in
    rw parts.0 (none_outside a b parts.1)

-- the groups, by the relation with one change more
pub groups_go_on : (k l : List Op) → GoesOn k l → (gs : List (List ℕ)) (n : ℕ) → n ≡ length k → AreGroups (is_conflict_of k) (places (length k)) gs → AreGroups (is_conflict_of l) (places n) gs
groups_go_on k l w gs n e are =
    subst (λ m. AreGroups (is_conflict_of l) (places m) gs) (sym e)
    (subst (λ s. IsPermutation gs s) (groups_agree (is_conflict_of k) (is_conflict_of l) (places (length k)) (λ i j m n. w.conflicts i j (below (length k) i m) (below (length k) j n))) are)

module _ (k l : List Op) (w : GoesOn k l) (newly : List ℕ) (e : newly ≡ filter (λ place. not (has (conflicting_places k) place)) (conflicting_places l)) where
  -- is the change at a place in conflict with some, before and after?
  abbrev before : ℕ → Bool
  before = in_conflict_with (is_conflict_of k) (places (length k))

  abbrev after : ℕ → Bool
  after = in_conflict_with (is_conflict_of l) (places (length l))

  -- what is in conflict stays so
  still : (x : ℕ) → x < length k → before x ≡ true → after x ≡ true
  still x low t =
      let c = any_back (is_conflict_of k x) (places (length k)) t in
      let high = below (length k) c.0 c.1 in
      any_from (is_conflict_of l x) c.0 (places (length l)) (In-places (length l) c.0 (omega (arith, w.size, high))) (sym (w.conflicts x c.0 low high) ∙ c.2)

  -- what is in conflict after, and not newly, was so before
  was : (x : ℕ) → x < length l → has newly x ≡ false → after x ≡ true → has (conflicting_places k) x ≡ true
  was x low n t = elim (cases_Bool (has (conflicting_places k) x)) [
    | inl h ↦ h
    | inr h ↦ (let there : In x (conflicting_places l) = In-filter after x (places (length l)) (In-places (length l) x low) t in
        let new : In x newly = subst (λ s. In x s) (sym e) (In-filter (λ place. not (has (conflicting_places k) place)) x (conflicting_places l) there (ap not h)) in
        absurd (true≢false (sym (has_if_in newly x new) ∙ n)))
  ]

  same : (x : ℕ) → x < length k → has newly x ≡ false → after x ≡ before x
  same x low n = elim (cases_Bool (before x)) [
    | inl t ↦ still x low t ∙ sym t
    | inr f ↦ false_from_ne_true (after x) (λ t. true≢false (sym (was x (omega (arith, low, w.size)) n t) ∙ has-filter before (length k) x low ∙ f)) ∙ sym f
  ]

  last : has newly (length k) ≡ false → after (length k) ≡ false
  last n = false_from_ne_true (after (length k)) (λ t. true≢false (sym (was (length k) (omega (arith, w.size)) n t) ∙ has-filter_past before (length k) (length k) (omega arith)))

  none_newly : (g : List ℕ) → list_any (has newly) g ≡ false → (x : ℕ) → In x g → has newly x ≡ false
  none_newly g n x m = any_none (has newly) x g n m

  by_places : (g : List ℕ) → ((x : ℕ) → In x g → x < length k) → ((x : ℕ) → In x g → has newly x ≡ false) → map (λ i. (at l i).name) (filter after g) ≡ map (λ i. (at k i).name) (filter before g)
  by_places g low n =
      ap (map (λ i. (at l i).name)) (filter_agree after before g (λ x m. same x (low x m) (n x m)))
      ∙ map_agree (λ i. (at l i).name) (λ i. (at k i).name) (filter before g) (λ x m. ap (λ (o : Op). o.name) (w.same x (low x (In-filter_back before x g m).0)))

  with_last : (g : List ℕ) → has newly (length k) ≡ false → filter after (g ++ length k ∷ []) ≡ filter after g
  with_last g n = filter-append after g (length k ∷ []) ∙ (let f = last n in ap (λ s. filter after g ++ s) (rw f refl)) ∙ append-nil (filter after g)

  pub id_stays : (g h : List ℕ) → All (λ p. p < length k) g → (h ≡ g) ⊎ (h ≡ g ++ length k ∷ []) → list_any (has newly) h ≡ false → id_at l h ≡ id_at k g
  unfolding identifier
  id_stays g h all grown n =
      let low : (x : ℕ) → In x g → x < length k = in_all (λ p. p < length k) g all in
      elim grown [
        | inl f ↦ ap (λ s. sort_by name_cmp (map (λ i. (at l i).name) (filter after s))) f ∙ ap (sort_by name_cmp) (by_places g low (λ x m. none_newly h n x (subst (λ s. In x s) (sym f) m)))
        | inr f ↦ (let there : (x : ℕ) → In x (g ++ length k ∷ []) → has newly x ≡ false = λ x m. none_newly h n x (subst (λ s. In x s) (sym f) m) in
            ap (λ s. sort_by name_cmp (map (λ i. (at l i).name) (filter after s))) f
            ∙ ap (λ s. sort_by name_cmp (map (λ i. (at l i).name) s)) (with_last g (there (length k) (In-append_right (length k) g (length k ∷ []) (inl refl))))
            ∙ ap (sort_by name_cmp) (by_places g low (λ x m. there x (In-append_left x g (length k ∷ []) m))))
      ]

  -- what is kept for a group is its identifier still
  pub kept_stays : (named : Named) → AreNamedOf k named → (i : ℕ) → i < length named.ids → (gs : List (List ℕ)) → HaveGrown named.groups.ops named.groups.groups gs → (h : List ℕ) → h ≡ slice_index_or gs i [] → list_any (has newly) h ≡ false
      → (id : List Name) → id ≡ slice_index_or named.ids i [] → id ≡ id_at l h
  kept_stays named are i there gs grown h at_h n id f =
      let kept = named.groups.groups in
      let count : length named.ids ≡ length kept = ap length are.ids_are ∙ length-map kept (id_at k) in
      let low : i < length kept = subst (λ m. i < m) count there in
      let g = slice_index_or kept i [] in
      let was : id ≡ id_at k g = f ∙ ap (λ s. slice_index_or s i []) are.ids_are ∙ get_or-map (id_at k) kept i [] [] low in
      let step : (h ≡ g) ⊎ (h ≡ g ++ length k ∷ []) = elim (grown i low) [ inl a ↦ inl (at_h ∙ a) | inr b ↦ inr (at_h ∙ b ∙ ap (λ m. g ++ m ∷ []) are.covered) ] in
      was ∙ sym (id_stays g h (kept_below (is_conflict_of k) (length k) kept are.groups_are i [] low) step n)

  -- where none comes newly into conflict, and there are as many groups, all stay
  pub all_kept : (named : Named) → AreNamedOf k named → (gs : List (List ℕ)) → HaveGrown named.groups.ops named.groups.groups gs → length gs ≡ length named.ids → newly ≡ [] → named.ids ≡ map (id_at l) gs
  all_kept named are gs grown size none = same_lists named.ids (map (id_at l) gs) (sym size ∙ sym (length-map gs (id_at l))) (λ i d there.
      let low : i < length gs = subst (λ n. i < n) (sym size) there in
      get_or_default named.ids i d [] there
      ∙ kept_stays named are i there gs grown (slice_index_or gs i []) refl (no_new (slice_index_or gs i [])) (slice_index_or named.ids i []) refl
      ∙ sym (get_or-map (id_at l) gs i [] d low))
    where
      no_new : (h : List ℕ) → list_any (has newly) h ≡ false
      no_new h = false_from_ne_true (list_any (has newly) h) (λ t. let a = any_back (has newly) h t in true≢false (sym a.2 ∙ ap (λ s. has s a.0) none))

  -- the places of a group that are those of before stand in it
  stood : (g h : List ℕ) → (h ≡ g) ⊎ (h ≡ g ++ length k ∷ []) → (x : ℕ) → In x g → In x h
  stood g h (inl f) x m = subst (λ s. In x s) (sym f) m
  stood g h (inr f) x m = subst (λ s. In x s) (sym f) (In-append_left x g (length k ∷ []) m)

  -- and what is in conflict in it, and not newly, stood in that
  stood_before : (g h : List ℕ) → (h ≡ g) ⊎ (h ≡ g ++ length k ∷ []) → (x : ℕ) → In x h → has newly x ≡ false → after x ≡ true → In x g
  stood_before g h (inl f) x m n t = subst (λ s. In x s) f m
  stood_before g h (inr f) x m n t = elim (In-append_cases x g (length k ∷ []) (subst (λ s. In x s) f m)) [
    | inl a ↦ a
    | inr b ↦ elim b [
      | inl q ↦ absurd (true≢false (sym t ∙ ap after q ∙ last (ap (has newly) (sym q) ∙ n)))
      | inr none ↦ absurd none
    ]
  ]

  -- the identifier of a group with the names of those of its places that come newly into conflict
  pub id_grows : IsRelation (length l) (λ i. (at l i).name) (is_conflict_of l) → (g h : List ℕ) → All (λ p. p < length k) g → (h ≡ g) ⊎ (h ≡ g ++ length k ∷ []) → IsStrictlyIncreasing h → All (λ p. p < length l) h
      → (id grown : List Name) → id ≡ id_at k g → names_rise grown ≡ true → IsPermutation (map (λ i. (at l i).name) (filter (has newly) h) ++ id) grown → grown ≡ id_at l h
  unfolding identifier
  id_grows r g h all step up within id grown is rise p =
      let name : ℕ → Name = λ i. (at l i).name in
      let name_before : ℕ → Name = λ i. (at k i).name in
      let low : (x : ℕ) → In x g → x < length k = in_all (λ p. p < length k) g all in
      let names = map name (filter after h) in
      let added = map name (filter (has newly) h) in
      let old = map name_before (filter before g) in
      let once = Once-from_HasNoRepeats names (names_once (length l) name (is_conflict_of l) h after names r (among_places (length l) h up within) refl) in
      sort_is name_cmp name_cmp_total names grown (untied_if_once name_cmp name_cmp_total names once (λ m n a b e. tied m n e)) (rise_if_names_rise grown rise)
      (λ z m.
      let c = In-map_back name z (filter after h) m in
      let d = In-filter_back after c.0 h c.1 in
      in_permutation z (added ++ id) grown p (elim (cases_Bool (has newly c.0)) [
        | inl t ↦ In-append_left z added id (subst (λ y. In y added) (sym c.2) (In-map name c.0 (filter (has newly) h) (In-filter (has newly) c.0 h d.0 t)))
        | inr f ↦
            (let i = stood_before g h step c.0 d.0 f d.1 in
            let b : before c.0 ≡ true = sym (same c.0 (low c.0 i) f) ∙ d.1 in
            let named : name_before c.0 ≡ z = ap (λ (o : Op). o.name) (sym (w.same c.0 (low c.0 i))) ∙ sym c.2 in
            In-append_right z added id (subst (λ s. In z s) (sym is) (sort_in name_cmp z old (subst (λ y. In y old) named (In-map name_before c.0 (filter before g) (In-filter before c.0 g i b))))))
      ]))
      (λ z m. elim (In-append_cases z added id (in_permutation z grown (added ++ id) (IsPermutation-sym (added ++ id) grown p) m)) [
        | inl a ↦
            (let c = In-map_back name z (filter (has newly) h) a in
            let d = In-filter_back (has newly) c.0 h c.1 in
            let n : In c.0 newly = in_if_has newly c.0 d.1 in
            let t = In-filter_back after c.0 (places (length l)) (In-filter_back (λ place. not (has (conflicting_places k) place)) c.0 (conflicting_places l) (subst (λ s. In c.0 s) e n)).0 in
            subst (λ y. In y names) (sym c.2) (In-map name c.0 (filter after h) (In-filter after c.0 h d.0 t.1)))
        | inr b ↦
            (let c = In-map_back name_before z (filter before g) (sort_back name_cmp z old (subst (λ s. In z s) is b)) in
            let d = In-filter_back before c.0 g c.1 in
            let named : name c.0 ≡ z = ap (λ (o : Op). o.name) (w.same c.0 (low c.0 d.0)) ∙ sym c.2 in
            subst (λ y. In y names) named (In-map name c.0 (filter after h) (In-filter after c.0 h (stood g h step c.0 d.0) (still c.0 (low c.0 d.0) d.1))))
      ])

  -- what is kept for a group grows to its identifier
  pub kept_grows : IsRelation (length l) (λ i. (at l i).name) (is_conflict_of l) → (named : Named) → AreNamedOf k named → (i : ℕ) → i < length named.ids → (gs : List (List ℕ)) → AreGroupsOf l gs → HaveGrown named.groups.ops named.groups.groups gs
      → i < length gs → (h : List ℕ) → h ≡ slice_index_or gs i [] → IsStrictlyIncreasing h
      → (id grown : List Name) → id ≡ slice_index_or named.ids i [] → names_rise grown ≡ true → IsPermutation (map (λ i. (at l i).name) (filter (has newly) h) ++ id) grown → grown ≡ id_at l h
  kept_grows r named are i there gs groups grew below h at_h up id grown f rise p =
      let kept = named.groups.groups in
      let count : length named.ids ≡ length kept = ap length are.ids_are ∙ length-map kept (id_at k) in
      let low : i < length kept = subst (λ m. i < m) count there in
      let g = slice_index_or kept i [] in
      let was : id ≡ id_at k g = f ∙ ap (λ s. slice_index_or s i []) are.ids_are ∙ get_or-map (id_at k) kept i [] [] low in
      let step : (h ≡ g) ⊎ (h ≡ g ++ length k ∷ []) = elim (grew i low) [ inl a ↦ inl (at_h ∙ a) | inr b ↦ inr (at_h ∙ b ∙ ap (λ m. g ++ m ∷ []) are.covered) ] in
      let within : All (λ p. p < length l) h = subst (All (λ p. p < length l)) (sym at_h) (kept_below (is_conflict_of l) (length l) gs groups i [] below) in
      id_grows r g h (kept_below (is_conflict_of k) (length k) kept are.groups_are i [] low) step up within id grown was rise p
