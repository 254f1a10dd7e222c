-- The number of groups never falls when members are added.
use Rattle.std.proofs.Common.{◌≡◌, ◌≤◌, Bool, true, false, cond, not, List, [], ◌∷◌, length, map, refl, sym, ap, ◌∙◌, subst, arith, ◌⊎◌, inl, inr}
use Rattle.std.specs.Prelude.{Contains, filter}
use Rattle.std.proofs.lemmas.Bool.{cases_Bool, true≢false, not-true, not_from_false, false_from_ne_true}
use Rattle.std.proofs.lemmas.List.{length-map}
use Rattle.rules.specs.Lists.{HasNoRepeats}
use Rattle.rules.specs.Groups.{in_conflict_with, groups_of, IsGroup}
use Rattle.rules.proofs.Lists.{In, In-from_Contains, Contains-from_In, In-map_back, In-filter, In-filter_back, any_back, any_none}
use Rattle.rules.proofs.Once.{Once, Once-from_HasNoRepeats, Once-map, length_within}
use Rattle.rules.proofs.Groups.{sublist_in, sublist_same, sublist_of_filter, group_is, group_in, Once-groups_of}

-- the list, with each of ys that conflicts with nothing taken so far
pub extend : {X : Type 0} → (X → X → Bool) → List X → List X → List X
extend conflict taken [] = taken
extend conflict taken (y ∷ ys) = extend conflict (cond (in_conflict_with conflict taken y) taken (y ∷ taken)) ys

module _ {X : Type 0} (conflict : X → X → Bool) (t : List X) (symmetric : (x y : X) → In x t → In y t → conflict x y ≡ conflict y x) (irreflexive : (x : X) → In x t → conflict x x ≡ false) where
  abbrev pub Free : List X → Type 0
  Free g = (x y : X) → In x g → In y g → conflict x y ≡ false

  abbrev pub Within : List X → Type 0
  Within g = (x : X) → In x g → In x t

  pub keeps : (taken ys : List X) (x : X) → In x taken → In x (extend conflict taken ys)
  unfolding extend
  keeps taken [] x m = m
  keeps taken (y ∷ ys) x m = elim (cases_Bool (in_conflict_with conflict taken y)) [
    | inl e ↦ rw e (keeps taken ys x m)
    | inr e ↦ rw e (keeps (y ∷ taken) ys x (inr m))
  ]

  pub within : (taken ys : List X) → Within taken → Within ys → Within (extend conflict taken ys)
  unfolding extend
  within taken [] p q = p
  within taken (y ∷ ys) p q = elim (cases_Bool (in_conflict_with conflict taken y)) [
    | inl e ↦ rw e (within taken ys p (λ x m. q x (inr m)))
    | inr e ↦ rw e (within (y ∷ taken) ys (λ x m. elim m [ inl f ↦ subst (λ z. In z t) (sym f) (q y (inl refl)) | inr r ↦ p x r ]) (λ x m. q x (inr m)))
  ]

  grown : (taken : List X) (y : X) → Within taken → In y t → in_conflict_with conflict taken y ≡ false → Free taken → Free (y ∷ taken)
  grown taken y p q e f x z m n = elim m [
    | inl a ↦ elim n [
      | inl b ↦ (λ i. conflict (a i) (b i)) ∙ irreflexive y q
      | inr b ↦ (λ i. conflict (a i) z) ∙ any_none (conflict y) z taken e b
    ]
    | inr a ↦ elim n [
      | inl b ↦ (λ i. conflict x (b i)) ∙ symmetric x y (p x a) q ∙ any_none (conflict y) x taken e a
      | inr b ↦ f x z a b
    ]
  ]

  pub free : (taken ys : List X) → Within taken → Within ys → Free taken → Free (extend conflict taken ys)
  unfolding extend
  free taken [] p q f = f
  free taken (y ∷ ys) p q f = elim (cases_Bool (in_conflict_with conflict taken y)) [
    | inl e ↦ rw e (free taken ys p (λ x m. q x (inr m)) f)
    | inr e ↦ rw e (free (y ∷ taken) ys (λ x m. elim m [ inl g ↦ subst (λ z. In z t) (sym g) (q y (inl refl)) | inr r ↦ p x r ]) (λ x m. q x (inr m)) (grown taken y p (q y (inl refl)) e f))
  ]

  pub full : (taken ys : List X) (x : X) → In x ys → In x (extend conflict taken ys) ⊎ ((y : X) × In y (extend conflict taken ys) × (conflict x y ≡ true))
  unfolding extend
  full taken [] x m = absurd m
  full taken (y ∷ ys) x m = elim (cases_Bool (in_conflict_with conflict taken y)) [
    | inl e ↦ rw e (elim m [
      | inl f ↦ (let c = any_back (conflict y) taken e in inr (c.0, keeps taken ys c.0 c.1, ap (λ z. conflict z c.0) f ∙ c.2))
      | inr r ↦ full taken ys x r
    ])
    | inr e ↦ rw e (elim m [
      | inl f ↦ inl (keeps (y ∷ taken) ys x (inl f))
      | inr r ↦ full (y ∷ taken) ys x r
    ])
  ]

  -- the group that a compatible list of members grows to: what conflicts with nothing in its extension
  pub extension : List X → List X
  extension g = filter (λ y. not (in_conflict_with conflict (extend conflict g t) y)) t

  module _ (g : List X) (p : Within g) (f : Free g) where
    pub in_extension : (x : X) → In x (extend conflict g t) → In x (extension g)
    unfolding extension
    in_extension x m =
        In-filter (λ y. not (in_conflict_with conflict (extend conflict g t) y)) x t (within g t p (λ z r. r) x m)
        (not_from_false _ (false_from_ne_true _ (λ e. let c = any_back (conflict x) (extend conflict g t) e in true≢false (sym c.2 ∙ free g t p (λ z r. r) f x c.0 m c.1))))

    pub in_extension_back : (x : X) → In x (extension g) → In x (extend conflict g t)
    unfolding extension
    in_extension_back x m =
        let c = In-filter_back (λ y. not (in_conflict_with conflict (extend conflict g t) y)) x t m in
        elim (full g t x c.0) [
          | inl a ↦ a
          | inr a ↦ absurd (true≢false (sym a.2 ∙ any_none (conflict x) a.0 (extend conflict g t) (not-true _ c.1) a.1))
        ]

    pub extension_is_group : IsGroup conflict t (extension g)
    unfolding extension
    extension_is_group = record {
      inside = sublist_of_filter (λ y. not (in_conflict_with conflict (extend conflict g t) y)) t;
      compatible = λ x y m n. free g t p (λ z r. r) f x y (in_extension_back x (In-from_Contains x (extension g) m)) (in_extension_back y (In-from_Contains y (extension g) n));
      maximal = λ x m. elim (full g t x (In-from_Contains x t m)) [
        | inl a ↦ inl (Contains-from_In x (extension g) (in_extension x a))
        | inr c ↦ inr (c.0, Contains-from_In c.0 (extension g) (in_extension c.0 c.1), c.2)
      ];
    }

    -- within s, a group of s grows by nothing
    back_within : (s : List X) → IsGroup conflict s g → (x : X) → In x s → In x (extension g) → In x g
    back_within s k x m n = elim (k.maximal x (Contains-from_In x s m)) [
      | inl a ↦ In-from_Contains x g a
      | inr c ↦
          (let i = free g t p (λ z r. r) f x c.0 (in_extension_back x n) (keeps g t c.0 (In-from_Contains c.0 g c.1)) in
          absurd (true≢false (sym c.2 ∙ i)))
    ]

  -- a part has at most as many groups as the whole: different groups grow to different ones
  pub groups_grow : (s : List X) → Once s → Once t → Within s → length (groups_of conflict s) ≤ length (groups_of conflict t)
  groups_grow s o u w =
      let is : (g : List X) → In g (groups_of conflict s) → IsGroup conflict s g = group_is conflict s in
      let inside : (g : List X) → IsGroup conflict s g → Within g = λ g k x m. w x (sublist_in g s k.inside x m) in
      let apart : (g : List X) → IsGroup conflict s g → Free g = λ g k x y m n. k.compatible x y (Contains-from_In x g m) (Contains-from_In y g n) in
      let to : (g h : List X) → IsGroup conflict s g → IsGroup conflict s h → extension g ≡ extension h → (x : X) → In x g → In x h =
      λ g h k l e x m. back_within h (inside h l) (apart h l) s l x (sublist_in g s k.inside x m) (subst (λ z. In x z) e (in_extension g (inside g k) (apart g k) x (keeps g t x m))) in
      let one : Once (map extension (groups_of conflict s)) = Once-map extension (groups_of conflict s) (λ g h m n e. let k = is g m in let l = is h n in sublist_same s g h o k.inside l.inside (to g h k l e) (to h g l k (sym e))) (Once-groups_of conflict s o) in
      let le = length_within (map extension (groups_of conflict s)) (groups_of conflict t) one (λ x m.
      let c = In-map_back extension x (groups_of conflict s) m in
      let k = is c.0 c.1 in
      group_in conflict t x u (subst (λ z. IsGroup conflict t z) (sym c.2) (extension_is_group c.0 (inside c.0 k) (apart c.0 k)))) in
      omega (arith, le, length-map (groups_of conflict s) extension)

pub groups_of_part : {X : Type 0} (conflict : X → X → Bool) (part whole : List X) → HasNoRepeats part → HasNoRepeats whole
    → ((x : X) → Contains part x → Contains whole x)
    → ((x y : X) → Contains whole x → Contains whole y → conflict x y ≡ conflict y x)
    → ((x : X) → Contains whole x → conflict x x ≡ false)
    → length (groups_of conflict part) ≤ length (groups_of conflict whole)
groups_of_part conflict part whole o u within symmetric never =
    groups_grow conflict whole (λ x y m n. symmetric x y (Contains-from_In x whole m) (Contains-from_In y whole n)) (λ x m. never x (Contains-from_In x whole m))
    part (Once-from_HasNoRepeats part o) (Once-from_HasNoRepeats whole u) (λ x m. In-from_Contains x whole (within x (Contains-from_In x part m)))
