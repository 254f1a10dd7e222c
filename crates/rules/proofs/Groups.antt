-- The groups of a list are its maximal compatible parts, each once.
use Rattle.std.proofs.Common.{◌≡◌, Bool, true, List, [], ◌∷◌, map, refl, sym, ap, ◌∙◌, subst, ◌⊎◌, inl, inr, ◌&&◌, not, ◌↔◌}
use Rattle.std.specs.Prelude.{Contains, filter}
use Rattle.std.proofs.lemmas.Bool.{cases_Bool, true≢false, and_parts, and_from, not-true, not_from_false, false_from_ne_true}
use Rattle.rules.specs.Lists.{HasNoRepeats}
use Rattle.rules.specs.Groups.{partings, in_conflict_with, is_compatible, is_maximal, groups_of, IsSublist, IsGroup}
use Rattle.rules.proofs.Lists.{In, In-from_Contains, Contains-from_In, In-append_left, In-append_right, In-append_cases, In-map, In-map_back, In-filter, In-filter_back, any_from, any_back, all_from, all_back, any_none, any_agree, all_agree, filter_agree}
use Rattle.rules.proofs.Once.{Once, Once-from_HasNoRepeats, HasNoRepeats-from_Once, Once-append, Once-map, Once-filter}

-- ---- parts of a list

pub sublist_in : {X : Type 0} (g s : List X) → IsSublist g s → (x : X) → In x g → In x s
sublist_in g [] e x m = subst (λ l. In x l) e m
sublist_in g (y ∷ s) p x m = elim p [
  | inl c ↦ elim (subst (λ l. In x l) c.1 m) [ inl e ↦ inl e | inr r ↦ inr (sublist_in c.0 s c.2 x r) ]
  | inr c ↦ inr (sublist_in g s c x m)
]

pub sublist_of_filter : {X : Type 0} (p : X → Bool) (s : List X) → IsSublist (filter p s) s
sublist_of_filter p [] = refl
sublist_of_filter p (x ∷ s) = elim (cases_Bool (p x)) [
  | inl e ↦ rw e (inl (filter p s, refl, sublist_of_filter p s))
  | inr e ↦ rw e (inr (sublist_of_filter p s))
]

-- two parts of a list with the same members are the same
pub sublist_same : {X : Type 0} (s g h : List X) → Once s → IsSublist g s → IsSublist h s → ((x : X) → In x g → In x h) → ((x : X) → In x h → In x g) → g ≡ h
sublist_same [] g h o p q f b = p ∙ sym q
sublist_same {X} (x ∷ s) g h o p q f b = elim p [
  | inl c ↦ elim q [
    | inl d ↦
        (let tails : (k l : List X) → g ≡ x ∷ k → h ≡ x ∷ l → IsSublist k s → ((y : X) → In y g → In y h) → (y : X) → In y k → In y l =
        λ k l e e' r f y m. elim (subst (λ z. In y z) e' (f y (subst (λ z. In y z) (sym e) (inr m)))) [
          | inl a ↦ absurd (o.0 (subst (λ z. In z s) a (sublist_in k s r y m)))
          | inr a ↦ a
        ] in
        let back : (y : X) → In y d.0 → In y c.0 =
        λ y m. elim (subst (λ z. In y z) c.1 (b y (subst (λ z. In y z) (sym d.1) (inr m)))) [
          | inl a ↦ absurd (o.0 (subst (λ z. In z s) a (sublist_in d.0 s d.2 y m)))
          | inr a ↦ a
        ] in
        c.1 ∙ ap (λ l. x ∷ l) (sublist_same s c.0 d.0 o.1 c.2 d.2 (tails c.0 d.0 c.1 d.1 c.2 f) back) ∙ sym d.1)
    | inr d ↦ absurd (o.0 (sublist_in h s d x (f x (subst (λ z. In x z) (sym c.1) (inl refl)))))
  ]
  | inr c ↦ elim q [
    | inl d ↦ absurd (o.0 (sublist_in g s c x (b x (subst (λ z. In x z) (sym d.1) (inl refl)))))
    | inr d ↦ sublist_same s g h o.1 c d f b
  ]
]

abbrev taken : {X : Type 0} → X → List X × List X → List X × List X
taken x p = (x ∷ p.0, p.1)

abbrev left : {X : Type 0} → X → List X × List X → List X × List X
left x p = (p.0, x ∷ p.1)

record Parting {X : Type 0} (s : List X) (p : List X × List X) : Type 0 where
  inside : IsSublist p.0 s
  rest : (x : X) → In x p.1 → In x s
  whole : (x : X) → In x s → In x p.0 ⊎ In x p.1

parting_is : {X : Type 0} (s : List X) (p : List X × List X) → In p (partings s) → Parting s p
parting_is {X} [] p m = elim m [
  | inl e ↦ record { inside = ap (λ (q : List X × List X). q.0) e; rest = λ x k. subst (λ (q : List X × List X). In x q.1) e k; whole = λ x k. absurd k }
  | inr r ↦ absurd r
]
parting_is {X} (y ∷ s) p m = elim (In-append_cases p (map (taken y) (partings s)) (map (left y) (partings s)) m) [
  | inl a ↦
      (let c = In-map_back (taken y) p (partings s) a in
      let i = parting_is s c.0 c.1 in
      subst (Parting (y ∷ s)) (sym c.2) (record {
        inside = inl (c.0.0, refl, i.inside);
        rest = λ x k. inr (i.rest x k);
        whole = λ x k. elim k [ inl e ↦ inl (inl e) | inr r ↦ elim (i.whole x r) [ inl l ↦ inl (inr l) | inr l ↦ inr l ] ];
      }))
  | inr a ↦
      (let c = In-map_back (left y) p (partings s) a in
      let i = parting_is s c.0 c.1 in
      subst (Parting (y ∷ s)) (sym c.2) (record {
        inside = inr i.inside;
        rest = λ x k. elim k [ inl e ↦ inl e | inr r ↦ inr (i.rest x r) ];
        whole = λ x k. elim k [ inl e ↦ inr (inl e) | inr r ↦ elim (i.whole x r) [ inl l ↦ inl l | inr l ↦ inr (inr l) ] ];
      }))
]

record Parted {X : Type 0} (s g : List X) : Type 0 where
  rest : List X
  there : In (g, rest) (partings s)
  others : (x : X) → In x rest → In x s × (In x g → ⊥)

-- each part of a list without repeats stands in one of its partings, beside what it leaves
parted : {X : Type 0} (s g : List X) → Once s → IsSublist g s → Parted s g
parted [] g o e = record { rest = []; there = inl (λ i. (e i, [])); others = λ x k. absurd k }
parted {X} (y ∷ s) g o p = elim p [
  | inl c ↦
      (let w = parted s c.0 o.1 c.2 in
      subst (Parted (y ∷ s)) (sym c.1) (record {
        rest = w.rest;
        there = In-append_left (y ∷ c.0, w.rest) (map (taken y) (partings s)) (map (left y) (partings s)) (In-map (taken y) (c.0, w.rest) (partings s) w.there);
        others = λ x k. let n = w.others x k in (inr n.0, λ l. elim l [ inl e ↦ o.0 (subst (λ z. In z s) e n.0) | inr r ↦ n.1 r ]);
      }))
  | inr c ↦
      (let w = parted s g o.1 c in
      record {
        rest = y ∷ w.rest;
        there = In-append_right (g, y ∷ w.rest) (map (taken y) (partings s)) (map (left y) (partings s)) (In-map (left y) (g, w.rest) (partings s) w.there);
        others = λ x k. elim k [
          | inl e ↦ (inl e, λ l. o.0 (subst (λ z. In z s) e (sublist_in g s c x l)))
          | inr r ↦ (let n = w.others x r in (inr n.0, n.1))
        ];
      })
]

-- ---- the groups

module _ {X : Type 0} (conflict : X → X → Bool) (s : List X) where
  abbrev makes_group : List X × List X → Bool
  makes_group p = is_compatible conflict p.0 && is_maximal conflict p.0 p.1

  group_if : (p : List X × List X) → In p (partings s) → makes_group p ≡ true → IsGroup conflict s p.0
  group_if p m e =
      let i = parting_is s p m in
      let c = and_parts (is_compatible conflict p.0) (is_maximal conflict p.0 p.1) e in
      record {
        inside = i.inside;
        compatible = λ x y a b. any_none (conflict x) y p.0 (not-true (in_conflict_with conflict p.0 x) (all_back (λ x. not (in_conflict_with conflict p.0 x)) p.0 c.0 x (In-from_Contains x p.0 a))) (In-from_Contains y p.0 b);
        maximal = λ x a. elim (i.whole x (In-from_Contains x s a)) [
          | inl l ↦ inl (Contains-from_In x p.0 l)
          | inr l ↦ (let k = any_back (conflict x) p.0 (all_back (in_conflict_with conflict p.0) p.1 c.1 x l) in inr (k.0, Contains-from_In k.0 p.0 k.1, k.2))
        ];
      }

  makes_group_if : (g : List X) (w : Parted s g) → IsGroup conflict s g → makes_group (g, w.rest) ≡ true
  makes_group_if g w i =
      and_from (is_compatible conflict g) (is_maximal conflict g w.rest)
      (all_from (λ x. not (in_conflict_with conflict g x)) g (λ x m. not_from_false (in_conflict_with conflict g x) (false_from_ne_true (in_conflict_with conflict g x) (λ t. let c = any_back (conflict x) g t in true≢false (sym c.2 ∙ i.compatible x c.0 (Contains-from_In x g m) (Contains-from_In c.0 g c.1))))))
      (all_from (in_conflict_with conflict g) w.rest (λ x m. let o = w.others x m in elim (i.maximal x (Contains-from_In x s o.0)) [
        | inl a ↦ absurd (o.1 (In-from_Contains x g a))
        | inr b ↦ any_from (conflict x) b.0 g (In-from_Contains b.0 g b.1) b.2
      ]))

  record Listed (g : List X) : Type 0 where
    rest : List X
    there : In (g, rest) (partings s)
    fit : makes_group (g, rest) ≡ true

  listed : (g : List X) → In g (groups_of conflict s) → Listed g
  unfolding groups_of
  listed g m =
      let c = In-map_back (λ (p : List X × List X). p.0) g (filter makes_group (partings s)) m in
      let d = In-filter_back makes_group c.0 (partings s) c.1 in
      subst Listed (sym c.2) (record { rest = c.0.1; there = d.0; fit = d.1 })

  pub group_is : (g : List X) → In g (groups_of conflict s) → IsGroup conflict s g
  group_is g m = let l = listed g m in group_if (g, l.rest) l.there l.fit

  pub group_in : (g : List X) → Once s → IsGroup conflict s g → In g (groups_of conflict s)
  unfolding groups_of
  group_in g o i = let w = parted s g o i.inside in In-map (λ (p : List X × List X). p.0) (g, w.rest) (filter makes_group (partings s)) (In-filter makes_group (g, w.rest) (partings s) w.there (makes_group_if g w i))

  -- the listed groups are the maximal compatible parts
  pub groups_of_is : (g : List X) → HasNoRepeats s → Contains (groups_of conflict s) g ↔ IsGroup conflict s g
  groups_of_is g o = (
    (λ m. group_is g (In-from_Contains g (groups_of conflict s) m)),
    (λ i. Contains-from_In g (groups_of conflict s) (group_in g (Once-from_HasNoRepeats s o) i)),
  )

  -- the members of a group are of s
  pub group_within : (g : List X) → In g (groups_of conflict s) → (x : X) → In x g → In x s
  group_within g m x l = sublist_in g s (group_is g m).inside x l

-- ---- each group once

cons_same : {X : Type 0} (x : X) (g h : List X) → x ∷ g ≡ x ∷ h → g ≡ h
cons_same x g h e = cc

not_both : {X : Type 0} (y : X) (s : List X) (p q : List X × List X) → (In y s → ⊥) → In p (map (taken y) (partings s)) → In q (map (left y) (partings s)) → p.0 ≡ q.0 → ⊥
not_both {X} y s p q o a b e =
    let c = In-map_back (taken y) p (partings s) a in
    let d = In-map_back (left y) q (partings s) b in
    let f : y ∷ c.0.0 ≡ d.0.0 = sym (ap (λ (r : List X × List X). r.0) c.2) ∙ e ∙ ap (λ (r : List X × List X). r.0) d.2 in
    o (sublist_in d.0.0 s (parting_is s d.0 d.1).inside y (subst (λ l. In y l) f (inl refl)))

-- what a part leaves is determined by it
parting_same : {X : Type 0} (s : List X) → Once s → (p q : List X × List X) → In p (partings s) → In q (partings s) → p.0 ≡ q.0 → p ≡ q
parting_same [] o p q m n e = elim m [ inl a ↦ elim n [ inl b ↦ a ∙ sym b | inr r ↦ absurd r ] | inr r ↦ absurd r ]
parting_same {X} (y ∷ s) o p q m n e =
    let part : List X × List X → List X = λ r. r.0 in
    elim (In-append_cases p (map (taken y) (partings s)) (map (left y) (partings s)) m) [
      | inl a ↦ elim (In-append_cases q (map (taken y) (partings s)) (map (left y) (partings s)) n) [
        | inl b ↦
            (let c = In-map_back (taken y) p (partings s) a in
            let d = In-map_back (taken y) q (partings s) b in
            c.2 ∙ ap (taken y) (parting_same s o.1 c.0 d.0 c.1 d.1 (cons_same y c.0.0 d.0.0 (sym (ap part c.2) ∙ e ∙ ap part d.2))) ∙ sym d.2)
        | inr b ↦ absurd (not_both y s p q o.0 a b e)
      ]
      | inr a ↦ elim (In-append_cases q (map (taken y) (partings s)) (map (left y) (partings s)) n) [
        | inl b ↦ absurd (not_both y s q p o.0 b a (sym e))
        | inr b ↦
            (let c = In-map_back (left y) p (partings s) a in
            let d = In-map_back (left y) q (partings s) b in
            c.2 ∙ ap (left y) (parting_same s o.1 c.0 d.0 c.1 d.1 (sym (ap part c.2) ∙ e ∙ ap part d.2)) ∙ sym d.2)
      ]
    ]

taken_same : {X : Type 0} (y : X) (p q : List X × List X) → taken y p ≡ taken y q → p ≡ q
taken_same {X} y p q e = let f : p.0 ≡ q.0 = cons_same y p.0 q.0 (ap (λ (r : List X × List X). r.0) e) in let g : p.1 ≡ q.1 = ap (λ (r : List X × List X). r.1) e in λ i. (f i, g i)

left_same : {X : Type 0} (y : X) (p q : List X × List X) → left y p ≡ left y q → p ≡ q
left_same {X} y p q e = let f : p.1 ≡ q.1 = cons_same y p.1 q.1 (ap (λ (r : List X × List X). r.1) e) in let g : p.0 ≡ q.0 = ap (λ (r : List X × List X). r.0) e in λ i. (g i, f i)

Once-partings : {X : Type 0} (s : List X) → Once s → Once (partings s)
Once-partings [] o = ((λ m. m), tt)
Once-partings {X} (y ∷ s) o =
    let r = Once-partings s o.1 in
    Once-append (map (taken y) (partings s)) (map (left y) (partings s))
    (Once-map (taken y) (partings s) (λ p q m n e. taken_same y p q e) r)
    (Once-map (left y) (partings s) (λ p q m n e. left_same y p q e) r)
    (λ p m n. not_both y s p p o.0 m n refl)

pub Once-groups_of : {X : Type 0} (conflict : X → X → Bool) (s : List X) → Once s → Once (groups_of conflict s)
unfolding groups_of
Once-groups_of {X} conflict s o =
    Once-map (λ (p : List X × List X). p.0) (filter (makes_group conflict s) (partings s))
    (λ p q m n e. parting_same s o p q (In-filter_back (makes_group conflict s) p (partings s) m).0 (In-filter_back (makes_group conflict s) q (partings s) n).0 e)
    (Once-filter (makes_group conflict s) (partings s) (Once-partings s o))

-- each group stands once
pub groups_once : {X : Type 0} (conflict : X → X → Bool) (s : List X) → HasNoRepeats s → HasNoRepeats (groups_of conflict s)
groups_once conflict s o = HasNoRepeats-from_Once (groups_of conflict s) (Once-groups_of conflict s (Once-from_HasNoRepeats s o))

-- ---- relations that agree on a list

module _ {X : Type 0} (c d : X → X → Bool) (s : List X) (agree : (x y : X) → In x s → In y s → c x y ≡ d x y) where
  pub in_conflict_agree : (g : List X) → ((y : X) → In y g → In y s) → (x : X) → In x s → in_conflict_with c g x ≡ in_conflict_with d g x
  in_conflict_agree g sub x m = any_agree (c x) (d x) g (λ y n. agree x y m (sub y n))

  makes_group_agree : (p : List X × List X) → In p (partings s) → makes_group c s p ≡ makes_group d s p
  makes_group_agree p m =
      let i = parting_is s p m in
      let sub : (y : X) → In y p.0 → In y s = λ y l. sublist_in p.0 s i.inside y l in
      let a = all_agree (λ x. not (in_conflict_with c p.0 x)) (λ x. not (in_conflict_with d p.0 x)) p.0 (λ x l. ap not (in_conflict_agree p.0 sub x (sub x l))) in
      let b = all_agree (in_conflict_with c p.0) (in_conflict_with d p.0) p.1 (λ x l. in_conflict_agree p.0 sub x (i.rest x l)) in
      λ j. a j && b j

  -- they make the same groups of it
  pub groups_agree : groups_of c s ≡ groups_of d s
  unfolding groups_of
  groups_agree = ap (map (λ (p : List X × List X). p.0)) (filter_agree (makes_group c s) (makes_group d s) (partings s) makes_group_agree)
