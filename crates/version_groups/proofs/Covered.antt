-- Where a group has all that is free of conflict with the place, only its candidate may be left.
use Rattle.std.proofs.Common.{◌≡◌, ℕ, zero, suc, arith, ◌+◌, ◌-◌, ◌<◌, Bool, true, false, List, [], ◌∷◌, ◌++◌, ◌&&◌, ◌||◌, take, drop, length, map, not, cond, refl, sym, ap, ◌∙◌, subst, inl, inr}
use Rattle.std.specs.Prelude.{All, filter, slice_index_or}
use Rattle.std.specs.List.{list_all, list_any, slice_range}
use Rattle.std.proofs.lemmas.Bool.{and_from, and_parts, cases_Bool, false_from_ne_true, or_right, true≢false}
use Rattle.std.proofs.lemmas.List.{get_or_default, map-append}
use Rattle.std.proofs.lemmas.List.Elements.{All-contains_itself, filter-append}
use Rattle.std.proofs.lemmas.List.Folds.{list_any_none}
use Rattle.rules.proofs.Lists.{In, In-from_Contains, Contains-from_In, In-append_cases, In-append_left, In-append_right, In-filter, In-filter_back, In-map, In-map_back, any_back, any_from}
use Rattle.places.specs.steps.PlaceSet.{AreBelow, is_within, places}
use Rattle.places.proofs.Places.{In-places, below, has_if_in, within_back, within_from}
use Rattle.version_groups.specs.steps.Steps.{candidate, group_after, incompatible_groups, next_groups, sift, IsLastWith}

-- candidates that lie in what stands are left out
all_left_out : (done cs : List (List ℕ)) (e : List ℕ) → In e done → ((c : List ℕ) → In c cs → is_within c e ≡ true) → sift done cs ≡ done
all_left_out done [] e m lie = refl
all_left_out done (c ∷ cs) e m lie =
    let lies : list_any (is_within c) done ≡ true = any_from (is_within c) e done m (lie c (inl refl)) in
    rw lies (all_left_out done cs e m (λ d n. lie d (inr n)))

nothing_more : (p : ℕ → Bool) (o : ℕ) (gs : List (List ℕ)) → All (AreBelow o) gs → list_any (λ g. is_within (filter p (places o)) g && list_all p g) gs ≡ true → map (group_after p o) gs ≡ next_groups p o gs
nothing_more p o gs each t =
    let found = any_back (λ g. is_within (filter p (places o)) g && list_all p g) gs t in
    let g = found.0 in
    let parts = and_parts (is_within (filter p (places o)) g) (list_all p g) found.2 in
    let grown : group_after p o g ≡ g ++ o ∷ [] = rw parts.1 refl in
    let lies : (c : List ℕ) → In c (map (candidate p o) (incompatible_groups p gs)) → is_within c (g ++ o ∷ []) ≡ true = λ c m.
    let from = In-map_back (candidate p o) c (incompatible_groups p gs) m in
    let h = from.0 in
    let there = (In-filter_back (λ x. not (list_all p x)) h gs from.1).0 in
    let at = Contains-from_In h gs there in
    let low : AreBelow o h = subst (AreBelow o) at.2 (each at.0 h at.1) in
    within_from c (g ++ o ∷ []) (λ x n. elim (In-append_cases x (filter p h) (o ∷ []) (subst (λ l. In x l) from.2 n)) [
      | inl a ↦
          (let kept = In-filter_back p x h a in
          In-append_left x g (o ∷ []) (within_back (filter p (places o)) g parts.0 x (In-filter p x (places o) (In-places o x (low x (has_if_in h x kept.0))) kept.1)))
      | inr b ↦ In-append_right x g (o ∷ []) b
    ]) in
    sym (all_left_out (map (group_after p o) gs) (map (candidate p o) (incompatible_groups p gs)) (g ++ o ∷ []) (subst (λ e. In e (map (group_after p o) gs)) grown (In-map (group_after p o) g gs found.1)) lies)

-- ---- the last group that has all free places, among others

module _ (p : ℕ → Bool) (o : ℕ) (after : List (List ℕ)) (g : List ℕ) (has_all : is_within (filter p (places o)) g ≡ true) (is_last : (h : List ℕ) → In h after → is_within (filter p (places o)) h ≡ false) where
  abbrev free : List ℕ
  free = filter p (places o)

  abbrev c : List ℕ
  c = candidate p o g

  is_free : (h : List ℕ) → AreBelow o h → (x : ℕ) → In x h → p x ≡ true → In x free
  is_free h low x m t = In-filter p x (places o) (In-places o x (low x (has_if_in h x m))) t

  -- each candidate lies in that of g
  lies_in_sole : (gs : List (List ℕ)) → ((h : List ℕ) → In h gs → AreBelow o h) → (d : List ℕ) → In d (map (candidate p o) (incompatible_groups p gs)) → is_within d c ≡ true
  lies_in_sole gs low d m =
      let from = In-map_back (candidate p o) d (incompatible_groups p gs) m in
      let h = from.0 in
      let there = (In-filter_back (λ x. not (list_all p x)) h gs from.1).0 in
      within_from d c (λ x n. elim (In-append_cases x (filter p h) (o ∷ []) (subst (λ l. In x l) from.2 n)) [
        | inl a ↦
            (let kept = In-filter_back p x h a in
            In-append_left x (filter p g) (o ∷ []) (In-filter p x g (within_back free g has_all x (is_free h (low h there) x kept.0 kept.1)) kept.1))
        | inr b ↦ In-append_right x (filter p g) (o ∷ []) b
      ])

  -- and it in no later one
  later_lacks : (d : List ℕ) → In d (map (candidate p o) (incompatible_groups p after)) → is_within c d ≡ false
  later_lacks d m =
      let from = In-map_back (candidate p o) d (incompatible_groups p after) m in
      let h = from.0 in
      let there = (In-filter_back (λ x. not (list_all p x)) h after from.1).0 in
      false_from_ne_true (is_within c d) (λ t. true≢false (sym (within_from free h (λ x n.
      let kept = In-filter_back p x (places o) n in
      let in_g = within_back free g has_all x n in
      let in_d = within_back c d t x (In-append_left x (filter p g) (o ∷ []) (In-filter p x g in_g kept.1)) in
      elim (In-append_cases x (filter p h) (o ∷ []) (subst (λ l. In x l) from.2 in_d)) [
        | inl a ↦ (In-filter_back p x h a).0
        | inr b ↦ elim b [ inl e ↦ (let low = below o x kept.0 in absurd (omega (arith, low, e))) | inr r ↦ absurd r ]
      ])) ∙ is_last h there))

  -- what comes before it is left out
  front_left_out : (done front rest : List (List ℕ)) → In c rest → ((d : List ℕ) → In d front → is_within d c ≡ true) → sift done (front ++ rest) ≡ sift done rest
  front_left_out done [] rest m lie = refl
  front_left_out done (d ∷ front) rest m lie =
      let later : list_any (is_within d) (front ++ rest) ≡ true = any_from (is_within d) c (front ++ rest) (In-append_right c front rest m) (lie d (inl refl)) in
      let lies : (list_any (is_within d) done || list_any (is_within d) (front ++ rest)) ≡ true = or_right (list_any (is_within d) done) (list_any (is_within d) (front ++ rest)) later in
      (λ i. sift (cond (lies i) done (done ++ d ∷ [])) (front ++ rest)) ∙ front_left_out done front rest m (λ k n. lie k (inr n))

  -- and what comes after it
  rest_left_out : (done rest : List (List ℕ)) → ((d : List ℕ) → In d rest → is_within d c ≡ true) → ((d : List ℕ) → In d rest → is_within c d ≡ false) → sift done (c ∷ rest) ≡ sift done (c ∷ [])
  rest_left_out done rest lie lack =
      let none : list_any (is_within c) rest ≡ false = list_any_none (is_within c) rest (λ k d l. let there = All-contains_itself rest k d l in lack (slice_index_or rest k d) (In-from_Contains (slice_index_or rest k d) rest there)) in
      elim (cases_Bool (list_any (is_within c) done)) [
        | inl t ↦
            (let e = any_back (is_within c) done t in
            rw t (all_left_out done rest e.0 e.1 (λ d n. within_from d e.0 (λ x k. within_back c e.0 e.2 x (within_back d c (lie d n) x k)))))
        | inr f ↦ rw (f, none) (all_left_out (done ++ c ∷ []) rest c (In-append_right c done (c ∷ []) (inl refl)) lie)
      ]

-- ---- by its index

parted : (gs : List (List ℕ)) (i : ℕ) → i < length gs → gs ≡ take i gs ++ slice_index_or gs i [] ∷ drop (suc i) gs
parted [] i l = absurd (omega arith)
parted (g ∷ gs) zero l = refl
parted (g ∷ gs) (suc i) l = ap (λ z. g ∷ z) (parted gs i (omega (arith, l)))

first_of_rest : (gs : List (List ℕ)) (i : ℕ) → i < length gs → take 1 (drop i gs) ≡ slice_index_or gs i [] ∷ []
first_of_rest [] i l = absurd (omega arith)
first_of_rest (g ∷ gs) zero l = refl
first_of_rest (g ∷ gs) (suc i) l = first_of_rest gs i (omega (arith, l))

-- the slice of one group
pub one_of : (gs : List (List ℕ)) (i : ℕ) → i < length gs → slice_range gs i (i + 1) ≡ slice_index_or gs i [] ∷ []
one_of gs i l =
    let one : i + 1 - i ≡ 1 = omega arith in
    ap (λ n. take n (drop i gs)) one ∙ first_of_rest gs i l

record Later (gs : List (List ℕ)) (i : ℕ) (h : List ℕ) : Type 0 where
  index : ℕ
  after : i < index
  inside : index < length gs
  is : slice_index_or gs index [] ≡ h

later_index : (gs : List (List ℕ)) (i : ℕ) (h : List ℕ) → In h (drop (suc i) gs) → Later gs i h
later_index [] i h m = absurd m
later_index (g ∷ gs) zero h m =
    let c = Contains-from_In h gs m in
    record { index = suc c.0; after = omega arith; inside = omega (arith, c.1); is = get_or_default gs c.0 [] h c.1 ∙ c.2 }
later_index (g ∷ gs) (suc i) h m =
    let l = later_index gs i h m in
    record { index = suc l.index; after = omega (arith, l.after); inside = omega (arith, l.inside); is = l.is }

-- of the candidates only that of the group at i counts
pub one_source : (p : ℕ → Bool) (o : ℕ) (gs : List (List ℕ)) (i : ℕ) → All (AreBelow o) gs → IsLastWith (filter p (places o)) gs i
    → sift (map (group_after p o) gs) (map (candidate p o) (incompatible_groups p (slice_index_or gs i [] ∷ []))) ≡ next_groups p o gs
one_source p o gs i each w =
    let g = slice_index_or gs i [] in
    let done = map (group_after p o) gs in
    let front = take i gs in
    let back = drop (suc i) gs in
    let is : gs ≡ front ++ g ∷ back = parted gs i w.inside in
    let low : (h : List ℕ) → In h gs → AreBelow o h = λ h m. let at = Contains-from_In h gs m in subst (AreBelow o) at.2 (each at.0 h at.1) in
    let there : In g gs = subst (λ l. In g l) (sym is) (In-append_right g front (g ∷ back) (inl refl)) in
    let last : (h : List ℕ) → In h back → is_within (filter p (places o)) h ≡ false = λ h m. let l = later_index gs i h m in ap (is_within (filter p (places o))) (sym l.is) ∙ w.is_last l.index l.after l.inside in
    let lie : (part : List (List ℕ)) → ((h : List ℕ) → In h part → In h gs) → (d : List ℕ) → In d (map (candidate p o) (incompatible_groups p part)) → is_within d (candidate p o g) ≡ true = λ part within. lies_in_sole p o back g w.has_all last part (λ h m. low h (within h m)) in
    elim (cases_Bool (list_all p g)) [
      | inl t ↦ rw t (nothing_more p o gs each (any_from (λ h. is_within (filter p (places o)) h && list_all p h) g gs there (and_from _ _ w.has_all t)))
      | inr f ↦
          (let sources : incompatible_groups p gs ≡ incompatible_groups p front ++ g ∷ incompatible_groups p back = ap (incompatible_groups p) is ∙ filter-append (λ h. not (list_all p h)) front (g ∷ back) ∙ rw f refl in
          let candidates = ap (map (candidate p o)) sources ∙ map-append (candidate p o) (incompatible_groups p front) (g ∷ incompatible_groups p back) in
          rw f (sym (ap (sift done) candidates
          ∙ front_left_out p o back g w.has_all last done (map (candidate p o) (incompatible_groups p front)) (candidate p o g ∷ map (candidate p o) (incompatible_groups p back)) (inl refl) (lie front (λ h m. subst (λ l. In h l) (sym is) (In-append_left h front (g ∷ back) m)))
          ∙ rest_left_out p o back g w.has_all last done (map (candidate p o) (incompatible_groups p back)) (lie back (λ h m. subst (λ l. In h l) (sym is) (In-append_right h front (g ∷ back) (inr m)))) (later_lacks p o back g w.has_all last))))
    ]
