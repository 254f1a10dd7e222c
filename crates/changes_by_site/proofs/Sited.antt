-- The index of changes by site: with one change more, and what a vector counts of it.
use Rattle.std.proofs.Common.{◌≡◌, ℕ, ◌+◌, ◌<◌, ◌≤◌, Bool, true, false, ◌||◌, List, [], ◌∷◌, ◌++◌, length, map, get_or, set, refl, sym, ap, ◌∙◌, subst, inl, inr, arith, eqb}
use Rattle.std.specs.Prelude.{filter, nat_le}
use Rattle.std.specs.List.{list_any}
use Rattle.std.specs.List.Sorted.{IsNonDecreasingBy, IsStrictlyIncreasing, IsPartitionPoint}
use Rattle.std.proofs.lemmas.Bool.{true≢false, cases_Bool, cases_eq, cases_lt, eq-eqb, eqb-true, le-leb, false_from_ne_true}
use Rattle.std.proofs.lemmas.List.{get_or_append_left, get_or_at, get_or_default, get_or-map, get_or-set_same, get_or-set_other, length-append, length-map, length-set, map_push}
use Rattle.std.proofs.lemmas.List.Kept.{AllPairs-from_increasing}
use Rattle.base_types.specs.Names.{Name}
use Rattle.base_types.specs.Vectors.{Vector, count_of, counts}
use Rattle.rules.specs.declared.history.Op.{Op}
use Rattle.rules.proofs.Lists.{In, In-from_Contains, Contains-from_In, In-filter, In-filter_back, any_from, any_back, filter_agree}
use Rattle.rules.proofs.Relation.{same_answer}
use Rattle.places.specs.steps.PlaceSet.{has, with_place, places, with_places}
use Rattle.places.specs.steps.Changes.{AreChangesOf, at}
use Rattle.changes_by_site.specs.steps.Indexes.{IsIndex, OfSite, SiteIndex, AreBySite, AreInOrder, IsRising, changes_of_site_at, of_site, numbered_place, with_change_of_site, counted_of, with_counted}
use Rattle.places.proofs.Places.{In-places, below, has_if_in, in_if_has, kept_next, put_next}
use Rattle.places.proofs.ChangesAt.{at_in, at_push}
use Rattle.places.proofs.WordPlaces.{Up, same_set, up_range, up_filter, up_with_all, has-with_all, kept_rises, or_turned, or_grouped}
use Rattle.places.proofs.Growth.{in_history, never_before}
use Rattle.places.proofs.Filters.{filter_all, filter_none}
use Rattle.changes_by_site.proofs.Indexed.{index_agrees, index_grown, index_begun}

one_site : (k : List Op) (s t p : ℕ) → of_site k s p ≡ true → of_site k t p ≡ true → s ≡ t
one_site k s t p e f = sym (eqb-true (at k p).name.0 s e) ∙ eqb-true (at k p).name.0 t f

-- ---- in order

pub in_order : {object : Name} {k : List Op} → AreChangesOf object k → AreInOrder k
in_order {object} {k} w p q l m e =
    let x = at k p in
    let y = at k q in
    let own : count_of x.seen x.name.0 + 1 ≡ x.name.1 = w.is_history.own x (in_history w x (at_in k p (omega arith))).0 in
    let there : count_of x.seen x.name.0 ≡ count_of x.seen y.name.0 = ap (count_of x.seen) e in
    elim (cases_lt (count_of x.seen y.name.0) y.name.1) [
      | inl b ↦ omega (arith, own, there)
      | inr g ↦ absurd (true≢false (sym (le-leb y.name.1 (count_of x.seen y.name.0) g) ∙ never_before k w.ordered p q l m))
    ]

-- ---- one change more

pub by_site_push : (k : List Op) (o : Op) (index : SiteIndex) → AreBySite k index → AreBySite (k ++ o ∷ []) index
by_site_push k o index w =
    let inside : index.len ≤ length k = w.within in
    let stays : (p : ℕ) → p < index.len → at (k ++ o ∷ []) p ≡ at k p = λ p l. at_push k o p (omega arith) in
    record {
      within = (let h = length-append k (o ∷ []) in omega arith);
      entries = index_agrees (of_site k) (of_site (k ++ o ∷ [])) index.len (length index.sites) (λ i. (changes_of_site_at index.sites i).site) (λ i. (changes_of_site_at index.sites i).places)
          (λ s p l. ap (λ (x : Op). eqb x.name.0 s) (sym (stays p l))) w.entries;
      numbers = λ i l. w.numbers i l ∙ renumbered (changes_of_site_at index.sites i).places (λ p m. stays p (below index.len p (In-filter_back (of_site k (changes_of_site_at index.sites i).site) p (places index.len) (subst (λ (ps : List ℕ). In p ps) (w.entries.each i l) m)).0));
    }
  where
    renumbered : (ps : List ℕ) → ((p : ℕ) → In p ps → at (k ++ o ∷ []) p ≡ at k p) → map (numbered_place k) ps ≡ map (numbered_place (k ++ o ∷ [])) ps
    renumbered [] f = refl
    renumbered (p ∷ ps) f = λ i. ((sym (f p (inl refl)) i).name.1, p) ∷ renumbered ps (λ q m. f q (inr m)) i

module _ (k : List Op) (index : SiteIndex) (w : AreBySite k index) (few : index.len < length k) where
  abbrev n : ℕ
  n = index.len

  abbrev size : ℕ
  size = length index.sites

  abbrev sites : List OfSite
  sites = index.sites

  -- the new places of a site are the old ones with n behind them
  pushed : (s : ℕ) (old new : List ℕ) → of_site k s n ≡ true → old ≡ filter (of_site k s) (places n) → new ≡ filter (of_site k s) (places (n + 1)) → new ≡ old ++ n ∷ []
  pushed s old new t e f = f ∙ kept_next (of_site k s) n t ∙ ap (λ (l : List ℕ). l ++ n ∷ []) (sym e)

  pub by_site_grown : (i number : ℕ) → i < size → (changes_of_site_at sites i).site ≡ (at k n).name.0 → number ≡ (at k n).name.1
      → AreBySite k (record { len = n + 1; sites = set sites i (with_change_of_site number n (changes_of_site_at sites i)) })
  by_site_grown i number l here is = record {
    within = omega arith;
    entries = subst (λ z. IsIndex (of_site k) (n + 1) z (λ j. (changes_of_site_at grown j).site) (λ j. (changes_of_site_at grown j).places)) (sym (length-set sites i (with_change_of_site number n (changes_of_site_at sites i)))) entries;
    numbers = λ j m. (let b : j < size = (let h = length-set sites i (with_change_of_site number n (changes_of_site_at sites i)) in omega arith) in elim (cases_eq j i) [
      | inl f ↦ ap (λ j. (changes_of_site_at grown j).changes) f ∙ ap (λ (of : OfSite). of.changes) same
          ∙ (λ t. w.numbers i l t ++ (is t, n) ∷ []) ∙ sym (map_push (numbered_place k) (changes_of_site_at sites i).places n)
          ∙ ap (map (numbered_place k)) (sym (pushed (changes_of_site_at sites i).site (changes_of_site_at sites i).places (with_place n (changes_of_site_at sites i).places) there (w.entries.each i l) (put_next (of_site k (changes_of_site_at sites i).site) n (changes_of_site_at sites i).places (with_place n (changes_of_site_at sites i).places) (w.entries.each i l) there refl)))
          ∙ ap (λ (of : OfSite). map (numbered_place k) of.places) (sym same)
          ∙ ap (λ j. map (numbered_place k) (changes_of_site_at grown j).places) (sym f)
      | inr d ↦ ap (λ (of : OfSite). of.changes) (other j d) ∙ w.numbers j b ∙ ap (λ (of : OfSite). map (numbered_place k) of.places) (sym (other j d))
    ]);
  }
    where
      grown : List OfSite
      grown = set sites i (with_change_of_site number n (changes_of_site_at sites i))

      there : of_site k (changes_of_site_at sites i).site n ≡ true
      there = eq-eqb (at k n).name.0 (changes_of_site_at sites i).site (sym here)

      same : changes_of_site_at grown i ≡ with_change_of_site number n (changes_of_site_at sites i)
      same = get_or-set_same sites i (with_change_of_site number n (changes_of_site_at sites i)) (changes_of_site_at [] 0) l

      other : (j : ℕ) → (j ≡ i → ⊥) → changes_of_site_at grown j ≡ changes_of_site_at sites j
      other j d = get_or-set_other sites i j (with_change_of_site number n (changes_of_site_at sites i)) (changes_of_site_at [] 0) d

      entries : IsIndex (of_site k) (n + 1) size (λ j. (changes_of_site_at grown j).site) (λ j. (changes_of_site_at grown j).places)
      entries = index_grown (of_site k) (one_site k) n size (λ j. (changes_of_site_at sites j).site) (λ j. (changes_of_site_at sites j).places) w.entries
          (λ j. (changes_of_site_at grown j).site) (λ j. (changes_of_site_at grown j).places)
          (λ j m. elim (cases_eq j i) [
            | inl f ↦ ap (λ j. (changes_of_site_at grown j).site) f ∙ ap (λ (of : OfSite). of.site) same ∙ ap (λ j. (changes_of_site_at sites j).site) (sym f)
            | inr d ↦ ap (λ (of : OfSite). of.site) (other j d)
          ])
          i l there (ap (λ (of : OfSite). of.places) same) (λ j m d. ap (λ (of : OfSite). of.places) (other j d))

  pub by_site_begun : (site number : ℕ) → site ≡ (at k n).name.0 → number ≡ (at k n).name.1 → ((i : ℕ) → i < size → (changes_of_site_at sites i).site ≡ site → ⊥)
      → AreBySite k (record { len = n + 1; sites = sites ++ record { site = site; changes = (number, n) ∷ []; places = n ∷ [] } ∷ [] })
  by_site_begun site number here is new = record {
    within = omega arith;
    entries = subst (λ z. IsIndex (of_site k) (n + 1) z (λ j. (changes_of_site_at with_addition j).site) (λ j. (changes_of_site_at with_addition j).places)) (sym (length-append sites (entry ∷ []))) entries;
    numbers = λ j m. (let h = length-append sites (entry ∷ []) in elim (cases_lt j size) [
      | inl b ↦ ap (λ (of : OfSite). of.changes) (old j b) ∙ w.numbers j b ∙ ap (λ (of : OfSite). map (numbered_place k) of.places) (sym (old j b))
      | inr g ↦ (let f : j ≡ size = omega arith in
          ap (λ j. (changes_of_site_at with_addition j).changes) f ∙ ap (λ (of : OfSite). of.changes) last ∙ (λ t. (is t, n) ∷ []) ∙ ap (λ (of : OfSite). map (numbered_place k) of.places) (sym last) ∙ ap (λ j. map (numbered_place k) (changes_of_site_at with_addition j).places) (sym f))
    ]);
  }
    where
      entry : OfSite
      entry = record { site = site; changes = (number, n) ∷ []; places = n ∷ [] }

      with_addition : List OfSite
      with_addition = sites ++ entry ∷ []

      last : changes_of_site_at with_addition size ≡ entry
      last = get_or_at sites entry [] (changes_of_site_at [] 0) size refl

      old : (j : ℕ) → j < size → changes_of_site_at with_addition j ≡ changes_of_site_at sites j
      old j b = get_or_append_left sites (entry ∷ []) (changes_of_site_at [] 0) j b

      entries : IsIndex (of_site k) (n + 1) (size + 1) (λ j. (changes_of_site_at with_addition j).site) (λ j. (changes_of_site_at with_addition j).places)
      entries = index_begun (of_site k) (one_site k) n size (λ j. (changes_of_site_at sites j).site) (λ j. (changes_of_site_at sites j).places) w.entries
          (λ j. (changes_of_site_at with_addition j).site) (λ j. (changes_of_site_at with_addition j).places) (λ j m. ap (λ (of : OfSite). of.site) (old j m))
          site (eq-eqb (at k n).name.0 site (sym here)) new (ap (λ (of : OfSite). of.site) last) (ap (λ (of : OfSite). of.places) last) (λ j m. ap (λ (of : OfSite). of.places) (old j m))

-- ---- what a vector counts of it

unnumbered : (k : List Op) (ps : List ℕ) → map (λ (change : ℕ × ℕ). change.1) (map (numbered_place k) ps) ≡ ps
unnumbered k [] = refl
unnumbered k (p ∷ ps) = ap (λ (l : List ℕ). p ∷ l) (unnumbered k ps)

module _ (k : List Op) (order : AreInOrder k) (site n : ℕ) (within : n ≤ length k) (ps : List ℕ) (are : ps ≡ filter (of_site k site) (places n)) where
  rise : IsStrictlyIncreasing ps
  rise = subst IsStrictlyIncreasing (sym are) (kept_rises (of_site k site) n)

  place_in : (i : ℕ) → i < length ps → In (get_or ps i 0) (filter (of_site k site) (places n))
  place_in i l = subst (In (get_or ps i 0)) are (In-from_Contains (get_or ps i 0) ps (i, l, get_or_default ps i (get_or ps i 0) 0 l))

  at_site : (i : ℕ) → i < length ps → (at k (get_or ps i 0)).name.0 ≡ site
  at_site i l = eqb-true (at k (get_or ps i 0)).name.0 site (In-filter_back (of_site k site) (get_or ps i 0) (places n) (place_in i l)).1

  low : (i : ℕ) → i < length ps → get_or ps i 0 < n
  low i l = below n (get_or ps i 0) (In-filter_back (of_site k site) (get_or ps i 0) (places n) (place_in i l)).0

  pub rising_places : (i j : ℕ) (d : ℕ × ℕ) → i < j → j < length (map (numbered_place k) ps) → (get_or (map (numbered_place k) ps) i d).1 < (get_or (map (numbered_place k) ps) j d).1
  rising_places i j d l m =
      let size = length-map ps (numbered_place k) in
      let a = get_or-map (numbered_place k) ps i 0 d (omega arith) in
      let b = get_or-map (numbered_place k) ps j 0 d (omega arith) in
      let r : get_or ps i 0 < get_or ps j 0 = AllPairs-from_increasing ps rise i j 0 l (omega arith) in
      omega (arith, ap (λ (s : ℕ × ℕ). s.1) a, ap (λ (s : ℕ × ℕ). s.1) b, r)

  pub rising_numbers : IsNonDecreasingBy (λ (change : ℕ × ℕ). change.0) (map (numbered_place k) ps)
  rising_numbers i j d l m =
      let size = length-map ps (numbered_place k) in
      let a = get_or-map (numbered_place k) ps i 0 d (omega arith) in
      let b = get_or-map (numbered_place k) ps j 0 d (omega arith) in
      elim (cases_eq i j) [
        | inl e ↦ (let f : (get_or (map (numbered_place k) ps) i d).0 ≡ (get_or (map (numbered_place k) ps) j d).0 = ap (λ z. (get_or (map (numbered_place k) ps) z d).0) e in omega arith)
        | inr e ↦
            (let r : get_or ps i 0 < get_or ps j 0 = AllPairs-from_increasing ps rise i j 0 (omega arith) (omega arith) in
            let h = low j (omega arith) in
            let o : (at k (get_or ps i 0)).name.1 ≤ (at k (get_or ps j 0)).name.1 = order (get_or ps i 0) (get_or ps j 0) r (omega arith) (at_site i (omega arith) ∙ sym (at_site j (omega arith))) in
            omega (arith, ap (λ (s : ℕ × ℕ). s.0) a, ap (λ (s : ℕ × ℕ). s.0) b, o))
      ]

pub rising : (k : List Op) (index : SiteIndex) → AreBySite k index → AreInOrder k → (i : ℕ) → i < length index.sites → IsRising (changes_of_site_at index.sites i)
rising k index w order i l =
    let of = changes_of_site_at index.sites i in
    let e : of.changes ≡ map (numbered_place k) of.places = w.numbers i l in
    record {
      same = sym (ap (map (λ (change : ℕ × ℕ). change.1)) e ∙ unnumbered k of.places);
      numbers = subst (IsNonDecreasingBy (λ (change : ℕ × ℕ). change.0)) (sym e) (rising_numbers k order of.site index.len w.within of.places (w.entries.each i l));
      places = subst (λ (s : List (ℕ × ℕ)). (i j : ℕ) (d : ℕ × ℕ) → i < j → j < length s → (get_or s i d).1 < (get_or s j d).1) (sym e) (rising_places k order of.site index.len w.within of.places (w.entries.each i l));
    }

filter_map_in : (p : ℕ → Bool) (xs : List (ℕ × ℕ)) → filter p (map (λ (change : ℕ × ℕ). change.1) xs) ≡ map (λ (change : ℕ × ℕ). change.1) (filter (λ (change : ℕ × ℕ). p change.1) xs)
filter_map_in p [] = refl
filter_map_in p (x ∷ xs) = elim (cases_Bool (p x.1)) [ inl t ↦ rw t (ap (λ (l : List ℕ). x.1 ∷ l) (filter_map_in p xs)) | inr t ↦ rw t (filter_map_in p xs) ]

-- a search for the first change that isn't counted
module _ (of : OfSite) (r : IsRising of) (number j : ℕ) (point : IsPartitionPoint (λ (change : ℕ × ℕ). nat_le change.0 number ≡ true) (λ (change : ℕ × ℕ). nat_le change.0 number ≡ false) of.changes j) where
  -- there is none
  pub counted_whole : j ≡ length of.changes → of.places ≡ map (λ (change : ℕ × ℕ). change.1) (filter (λ (change : ℕ × ℕ). nat_le change.0 number) of.changes)
  counted_whole e = r.same ∙ ap (map (λ (change : ℕ × ℕ). change.1)) (sym (filter_all (λ (change : ℕ × ℕ). nat_le change.0 number) of.changes (λ x m.
      let c = Contains-from_In x of.changes m in
      let l : c.0 < length of.changes = c.1 in
      ap (λ (s : ℕ × ℕ). nat_le s.0 number) (sym c.2) ∙ point.0 c.0 x (omega arith) (omega (arith, l)))))

  -- it is the first
  pub counted_none : j ≡ 0 → map (λ (change : ℕ × ℕ). change.1) (filter (λ (change : ℕ × ℕ). nat_le change.0 number) of.changes) ≡ []
  counted_none e = ap (map (λ (change : ℕ × ℕ). change.1)) (filter_none (λ (change : ℕ × ℕ). nat_le change.0 number) of.changes (λ x m.
      let c = Contains-from_In x of.changes m in
      let l : c.0 < length of.changes = c.1 in
      ap (λ (s : ℕ × ℕ). nat_le s.0 number) (sym c.2) ∙ point.1 c.0 x (omega (arith, e)) l))

  -- it is at j
  pub counted_cut : (d : ℕ × ℕ) (bound : ℕ) → j < length of.changes → bound ≡ (get_or of.changes j d).1 → filter (has (places bound)) of.places ≡ map (λ (change : ℕ × ℕ). change.1) (filter (λ (change : ℕ × ℕ). nat_le change.0 number) of.changes)
  counted_cut d bound within e =
      ap (filter (has (places bound))) r.same
      ∙ filter_map_in (has (places bound)) of.changes
      ∙ ap (map (λ (change : ℕ × ℕ). change.1)) (filter_agree (λ (change : ℕ × ℕ). has (places bound) change.1) (λ (change : ℕ × ℕ). nat_le change.0 number) of.changes each)
    where
      each : (x : ℕ × ℕ) → In x of.changes → has (places bound) x.1 ≡ nat_le x.0 number
      each x m =
          let c = Contains-from_In x of.changes m in
          let l : c.0 < length of.changes = c.1 in
          let i : ℕ = c.0 in
          let here : get_or of.changes i d ≡ x = get_or_default of.changes i d x l ∙ c.2 in
          let place : (get_or of.changes i d).1 ≡ x.1 = ap (λ (s : ℕ × ℕ). s.1) here in
          elim (cases_lt i j) [
            | inl b ↦ (let o = r.places i j d b within in has_if_in (places bound) x.1 (In-places bound x.1 (omega arith))) ∙ sym (ap (λ (s : ℕ × ℕ). nat_le s.0 number) (sym here) ∙ point.0 i d (omega arith) b)
            | inr g ↦
                (let o : (get_or of.changes j d).1 ≤ (get_or of.changes i d).1 = elim (cases_eq j i) [
                  | inl q ↦ (let f = ap (λ z. (get_or of.changes z d).1) q in omega arith)
                  | inr q ↦ (let f = r.places j i d (omega arith) l in omega arith)
                ] in
                false_from_ne_true (has (places bound) x.1) (λ t. let h = below bound x.1 (in_if_has (places bound) x.1 t) in absurd (omega arith)))
                ∙ sym (ap (λ (s : ℕ × ℕ). nat_le s.0 number) (sym here) ∙ point.1 i d g l)
          ]

module _ (seen : Vector) where
  up_counted : (known : List ℕ) (sites : List OfSite) → Up known → Up (with_counted seen known sites)
  up_counted known [] u = u
  up_counted known (of ∷ sites) u = up_counted (with_places known (counted_of seen of)) sites (up_with_all known (counted_of seen of) u)

  has_counted : (known : List ℕ) (sites : List OfSite) (x : ℕ) → has (with_counted seen known sites) x ≡ (has known x || list_any (λ (of : OfSite). has (counted_of seen of) x) sites)
  has_counted known [] x = or_turned false (has known x)
  has_counted known (of ∷ sites) x =
      has_counted (with_places known (counted_of seen of)) sites x
      ∙ ap (λ b. b || list_any (λ (of : OfSite). has (counted_of seen of) x) sites) (has-with_all known (counted_of seen of) x)
      ∙ sym (or_grouped (has known x) (has (counted_of seen of) x) (list_any (λ (of : OfSite). has (counted_of seen of) x) sites))

picked : (k : List Op) (number : ℕ) (ps : List ℕ) → map (λ (change : ℕ × ℕ). change.1) (filter (λ (change : ℕ × ℕ). nat_le change.0 number) (map (numbered_place k) ps)) ≡ filter (λ p. nat_le (at k p).name.1 number) ps
picked k number [] = refl
picked k number (p ∷ ps) = elim (cases_Bool (nat_le (at k p).name.1 number)) [ inl t ↦ rw t (ap (λ (l : List ℕ). p ∷ l) (picked k number ps)) | inr t ↦ rw t (picked k number ps) ]

module _ (k : List Op) (index : SiteIndex) (w : AreBySite k index) (seen : Vector) where
  abbrev counted : ℕ → Bool
  counted p = counts seen (at k p).name

  abbrev listed : List OfSite
  listed = index.sites

  abbrev up_to : ℕ → ℕ → Bool
  up_to site p = nat_le (at k p).name.1 (count_of seen site)

  counted_is : (i : ℕ) → i < length listed → counted_of seen (changes_of_site_at listed i) ≡ filter (up_to (changes_of_site_at listed i).site) (filter (of_site k (changes_of_site_at listed i).site) (places index.len))
  counted_is i l =
      ap (λ (s : List (ℕ × ℕ)). map (λ (change : ℕ × ℕ). change.1) (filter (λ (change : ℕ × ℕ). nat_le change.0 (count_of seen (changes_of_site_at listed i).site)) s)) (w.numbers i l)
      ∙ picked k (count_of seen (changes_of_site_at listed i).site) (changes_of_site_at listed i).places
      ∙ ap (filter (up_to (changes_of_site_at listed i).site)) (w.entries.each i l)

  there : (x : ℕ) (of : OfSite) → In of listed → has (counted_of seen of) x ≡ true → has (filter counted (places index.len)) x ≡ true
  there x of m t =
      let c = Contains-from_In of listed m in
      let i : ℕ = c.0 in
      let here : changes_of_site_at listed i ≡ of = get_or_default listed i (changes_of_site_at [] 0) of c.1 ∙ c.2 in
      let s : ℕ = (changes_of_site_at listed i).site in
      let member = in_if_has (counted_of seen (changes_of_site_at listed i)) x (ap (λ (o : OfSite). has (counted_of seen o) x) here ∙ t) in
      let a = In-filter_back (up_to s) x (filter (of_site k s) (places index.len)) (subst (λ (l : List ℕ). In x l) (counted_is i c.1) member) in
      let b = In-filter_back (of_site k s) x (places index.len) a.0 in
      has_if_in (filter counted (places index.len)) x (In-filter counted x (places index.len) b.0 (ap (λ z. nat_le (at k x).name.1 (count_of seen z)) (eqb-true (at k x).name.0 s b.1) ∙ a.1))

  back : (x : ℕ) → has (filter counted (places index.len)) x ≡ true → list_any (λ (of : OfSite). has (counted_of seen of) x) listed ≡ true
  back x t =
      let a = In-filter_back counted x (places index.len) (in_if_has (filter counted (places index.len)) x t) in
      let own : of_site k (at k x).name.0 x ≡ true = eq-eqb (at k x).name.0 (at k x).name.0 refl in
      let c = w.entries.all (at k x).name.0 x (below index.len x a.0) own in
      let i : ℕ = c.0 in
      let s : ℕ = (changes_of_site_at listed i).site in
      let kept : In x (filter (of_site k s) (places index.len)) = In-filter (of_site k s) x (places index.len) a.0 (ap (λ z. of_site k z x) c.2 ∙ own) in
      let member : In x (filter (up_to s) (filter (of_site k s) (places index.len))) = In-filter (up_to s) x (filter (of_site k s) (places index.len)) kept (ap (λ z. nat_le (at k x).name.1 (count_of seen z)) c.2 ∙ a.1) in
      any_from (λ (of : OfSite). has (counted_of seen of) x) (changes_of_site_at listed i) listed
      (In-from_Contains (changes_of_site_at listed i) listed (i, c.1, get_or_default listed i (changes_of_site_at listed i) (changes_of_site_at [] 0) c.1))
      (has_if_in (counted_of seen (changes_of_site_at listed i)) x (subst (λ (l : List ℕ). In x l) (sym (counted_is i c.1)) member))

  pub all_counted : with_counted seen [] listed ≡ filter counted (places index.len)
  all_counted = same_set (with_counted seen [] listed) (filter counted (places index.len))
      (up_counted seen [] listed tt) (up_filter counted (places index.len) (up_range 0 index.len))
      (λ x. has_counted seen [] listed x ∙ same_answer (list_any (λ (of : OfSite). has (counted_of seen of) x) listed) (has (filter counted (places index.len)) x)
      (λ t. let c = any_back (λ (of : OfSite). has (counted_of seen of) x) listed t in there x c.0 c.1 c.2) (back x))
