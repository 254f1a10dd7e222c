-- Different groups have different identifiers.
use Rattle.std.proofs.Common.{◌≡◌, Bool, true, List, [], map, refl, sym, ap, ◌∙◌, subst, inl, inr, Some, ◌↔◌}
use Rattle.std.specs.Prelude.{Contains, filter, find}
use Rattle.std.proofs.lemmas.Bool.{cases_Bool, true≢false}
use Rattle.base_types.specs.Names.{Name, name_cmp}
use Rattle.base_types.specs.VersionIds.{same_names}
use Rattle.rules.specs.steps.Equality.{same_names-Decides}
use Rattle.rules.specs.Lists.{HasNoRepeats, sort_by}
use Rattle.rules.specs.Groups.{in_conflict_with, groups_of, identifier, group_named, IsGroup}
use Rattle.rules.proofs.Lists.{In, In-from_Contains, Contains-from_In, In-map, In-map_back, In-filter, In-filter_back, any_from, filter_agree, find_agree, find_is, find_some}
use Rattle.rules.proofs.Once.{Once, Once-from_HasNoRepeats}
use Rattle.rules.proofs.Sorting.{sort_in, sort_back}
use Rattle.rules.proofs.Groups.{sublist_in, sublist_same, group_is, group_in, group_within, in_conflict_agree, groups_agree}

module _ {X : Type 0} (conflict : X → X → Bool) (name : X → Name) (s : List X) where
  abbrev named : List X → List Name
  named g = map name (filter (in_conflict_with conflict s) g)

  pub in_identifier : (g : List X) (x : X) → In x g → in_conflict_with conflict s x ≡ true → In (name x) (identifier conflict name s g)
  unfolding identifier
  in_identifier g x m t = sort_in name_cmp (name x) (named g) (In-map name x (filter (in_conflict_with conflict s) g) (In-filter (in_conflict_with conflict s) x g m t))

  pub record Named (g : List X) (n : Name) : Type 0 where
    pub member : X
    pub there : In member g
    pub met : in_conflict_with conflict s member ≡ true
    pub is : n ≡ name member

  pub in_identifier_back : (g : List X) (n : Name) → In n (identifier conflict name s g) → Named g n
  unfolding identifier
  in_identifier_back g n m =
      let c = In-map_back name n (filter (in_conflict_with conflict s) g) (sort_back name_cmp n (named g) m) in
      let d = In-filter_back (in_conflict_with conflict s) c.0 g c.1 in
      record { member = c.0; there = d.0; met = d.1; is = c.2 }

module _ {X : Type 0} (conflict : X → X → Bool) (name : X → Name) (s : List X) (apart : (x y : X) → In x s → In y s → name x ≡ name y → x ≡ y) where
  identified : (g h : List X) → IsGroup conflict s g → IsGroup conflict s h → identifier conflict name s g ≡ identifier conflict name s h → (x : X) → In x g → In x h
  identified g h i j e x m =
      let within : (k : List X) → IsGroup conflict s k → (y : X) → In y k → In y s = λ k p y l. sublist_in k s p.inside y l in
      elim (cases_Bool (in_conflict_with conflict s x)) [
        | inl t ↦
            (let a = in_identifier_back conflict name s h (name x) (subst (λ l. In (name x) l) e (in_identifier conflict name s g x m t)) in
            subst (λ z. In z h) (sym (apart x a.member (within g i x m) (within h j a.member a.there) a.is)) a.there)
        | inr f ↦ elim (j.maximal x (Contains-from_In x s (within g i x m))) [
          | inl a ↦ In-from_Contains x h a
          | inr b ↦ absurd (true≢false (sym (any_from (conflict x) b.0 s (within h j b.0 (In-from_Contains b.0 h b.1)) b.2) ∙ f))
        ]
      ]

  -- different groups have different identifiers
  pub one_identifier : Once s → (g h : List X) → IsGroup conflict s g → IsGroup conflict s h → identifier conflict name s g ≡ identifier conflict name s h → g ≡ h
  one_identifier o g h i j e = sublist_same s g h o i.inside j.inside (identified g h i j e) (identified h g j i (sym e))

pub identifiers_apart : {X : Type 0} (conflict : X → X → Bool) (name : X → Name) (s g h : List X) → HasNoRepeats s
    → ((x y : X) → Contains s x → Contains s y → name x ≡ name y → x ≡ y)
    → IsGroup conflict s g → IsGroup conflict s h → identifier conflict name s g ≡ identifier conflict name s h → g ≡ h
identifiers_apart conflict name s g h o apart i j e =
    one_identifier conflict name s (λ x y m n f. apart x y (Contains-from_In x s m) (Contains-from_In y s n) f) (Once-from_HasNoRepeats s o) g h i j e

pub same_names-true : (xs ys : List Name) → same_names xs ys ≡ true → xs ≡ ys
same_names-true xs ys = (same_names-Decides xs ys).0

pub same_names-refl : (xs : List Name) → same_names xs xs ≡ true
same_names-refl xs = (same_names-Decides xs xs).1 refl

module _ {X : Type 0} (conflict : X → X → Bool) (name : X → Name) (s : List X) (id : List Name) (g : List X) where
  abbrev has_id : List X → Bool
  has_id k = same_names (identifier conflict name s k) id

  pub group_named_back : group_named conflict name s id ≡ Some g → In g (groups_of conflict s) × (identifier conflict name s g ≡ id)
  unfolding group_named
  group_named_back e = let c = find_is has_id g (groups_of conflict s) e in (c.0, same_names-true (identifier conflict name s g) id c.1)

  -- the group that is found is the one group with that identifier
  pub group_named_is : ((x y : X) → In x s → In y s → name x ≡ name y → x ≡ y) → Once s → (group_named conflict name s id ≡ Some g) ↔ (IsGroup conflict s g × (identifier conflict name s g ≡ id))
  unfolding group_named
  group_named_is apart o = (
    λ e. let c = group_named_back e in (group_is conflict s g c.0, c.1),
    λ i. let f = find_some has_id g (groups_of conflict s) (group_in conflict s g o i.0) (ap (λ l. same_names l id) i.1 ∙ same_names-refl id) in
        let c = find_is has_id f.0 (groups_of conflict s) f.1 in
        f.1 ∙ ap Some (one_identifier conflict name s apart o f.0 g (group_is conflict s f.0 c.0) i.0 (same_names-true (identifier conflict name s f.0) id c.1 ∙ sym i.1)),
  )

-- ---- relations that agree on a list

module _ {X : Type 0} (c d : X → X → Bool) (s : List X) (agree : (x y : X) → In x s → In y s → c x y ≡ d x y) (name : X → Name) where
  pub identifier_agree : (g : List X) → ((y : X) → In y g → In y s) → identifier c name s g ≡ identifier d name s g
  unfolding identifier
  identifier_agree g sub = ap (λ l. sort_by name_cmp (map name l)) (filter_agree (in_conflict_with c s) (in_conflict_with d s) g (λ x m. in_conflict_agree c d s agree s (λ y n. n) x (sub x m)))

  pub group_named_agree : (id : List Name) → group_named c name s id ≡ group_named d name s id
  unfolding group_named
  group_named_agree id =
      find_agree (has_id c name s id []) (has_id d name s id []) (groups_of c s) (λ g m. ap (λ l. same_names l id) (identifier_agree g (group_within c s g m)))
      ∙ ap (find (has_id d name s id [])) (groups_agree c d s agree)
