-- The group with an identifier is found by one filter: the members that conflict with none that the identifier names.
use Rattle.std.proofs.Common.{◌≡◌, Bool, true, false, cond, List, refl, sym, ap, ◌∙◌, subst, inl, inr, Option, Some, None, not}
use Rattle.std.specs.Prelude.{Contains, filter}
use Rattle.std.proofs.lemmas.Bool.{cases_Bool, true≢false, not-true, not_from_false, false_from_ne_true}
use Rattle.base_types.specs.Names.{Name, same_name}
use Rattle.base_types.specs.VersionIds.{same_names}
use Rattle.rules.specs.Lists.{HasNoRepeats}
use Rattle.rules.specs.Groups.{in_conflict_with, identifier, group_named, IsGroup}
use Rattle.rules.specs.steps.NamedGroups.{is_named, compatible_with_named}
use Rattle.rules.proofs.Lists.{In, In-from_Contains, Contains-from_In, In-filter, In-filter_back, any_from, any_back}
use Rattle.rules.proofs.Once.{Once, Once-from_HasNoRepeats}
use Rattle.rules.proofs.Counted.{same_name-true, same_name-refl}
use Rattle.rules.proofs.Groups.{sublist_in, sublist_same, sublist_of_filter}
use Rattle.rules.proofs.Identifiers.{in_identifier, in_identifier_back, same_names-true, same_names-refl, group_named_is}

module _ {X : Type 0} (conflict : X → X → Bool) (name : X → Name) (s : List X) (apart : (x y : X) → In x s → In y s → name x ≡ name y → x ≡ y) (once : Once s) (symmetric : (x y : X) → In x s → In y s → conflict x y ≡ conflict y x) (id : List Name) where
  abbrev named : List X
  named = filter (is_named name id) s

  abbrev free : X → Bool
  free x = not (in_conflict_with conflict named x)

  abbrev left : List X
  left = compatible_with_named conflict name s id

  -- where g has this identifier, what it names is in g
  from_named : (g : List X) → ((x : X) → In x g → In x s) → identifier conflict name s g ≡ id → (x : X) → In x named → In x g
  from_named g within e x m =
      let c = In-filter_back (is_named name id) x s m in
      let n = any_back (same_name (name x)) id c.1 in
      let there : In (name x) id = subst (λ k. In k id) (sym (same_name-true (name x) n.0 n.2)) n.1 in
      let b = in_identifier_back conflict name s g (name x) (subst (λ l. In (name x) l) (sym e) there) in
      subst (λ z. In z g) (sym (apart x b.member c.0 (within b.member b.there) b.is)) b.there

  -- and what of g conflicts with some member is named
  to_named : (g : List X) → ((x : X) → In x g → In x s) → identifier conflict name s g ≡ id → (x y : X) → In x g → In y s → conflict x y ≡ true → In x named
  to_named g within e x y m n t =
      let there : In (name x) id = subst (λ l. In (name x) l) e (in_identifier conflict name s g x m (any_from (conflict x) y s n t)) in
      In-filter (is_named name id) x s (within x m) (any_from (same_name (name x)) (name x) id there (same_name-refl (name x) (name x) refl))

  is_free : (x : X) → ((y : X) → In y named → conflict x y ≡ true → ⊥) → free x ≡ true
  is_free x f = not_from_false _ (false_from_ne_true _ (λ e. let c = any_back (conflict x) named e in f c.0 c.1 c.2))

  free_back : (x y : X) → free x ≡ true → In y named → conflict x y ≡ true → ⊥
  free_back x y e m t = true≢false (sym (any_from (conflict x) y named m t) ∙ not-true _ e)

  -- a group with this identifier is what the filter leaves
  group_is_left : (g : List X) → IsGroup conflict s g → identifier conflict name s g ≡ id → left ≡ g
  group_is_left g i e =
      let within : (x : X) → In x g → In x s = sublist_in g s i.inside in
      sublist_same s left g once (sublist_of_filter free s) i.inside
      (λ x m. let c = In-filter_back free x s m in elim (i.maximal x (Contains-from_In x s c.0)) [
        | inl a ↦ In-from_Contains x g a
        | inr b ↦
            (let there = In-from_Contains b.0 g b.1 in
            absurd (free_back x b.0 c.1 (to_named g within e b.0 x there c.0 (sym (symmetric x b.0 c.0 (within b.0 there)) ∙ b.2)) b.2))
      ])
      (λ x m. In-filter free x s (within x m) (is_free x (λ y n t. true≢false (sym t ∙ i.compatible x y (Contains-from_In x g m) (Contains-from_In y g (from_named g within e y n))))))

  -- what the filter leaves is a group, where it has this identifier
  left_is_group : identifier conflict name s left ≡ id → IsGroup conflict s left
  left_is_group e =
      let within : (x : X) → In x left → In x s = λ x m. (In-filter_back free x s m).0 in
      record {
        inside = sublist_of_filter free s;
        compatible = λ x y m n. false_from_ne_true (conflict x y) (λ t.
            let a = In-filter_back free x s (In-from_Contains x left m) in
            let there = In-from_Contains y left n in
            free_back x y a.1 (to_named left within e y x there a.0 (sym (symmetric x y a.0 (within y there)) ∙ t)) t);
        maximal = λ x m. let k = In-from_Contains x s m in elim (cases_Bool (in_conflict_with conflict named x)) [
          | inl t ↦ (let c = any_back (conflict x) named t in inr (c.0, Contains-from_In c.0 left (from_named left within e c.0 c.1), c.2))
          | inr f ↦ inl (Contains-from_In x left (In-filter free x s k (not_from_false _ f)))
        ];
      }

  abbrev is_identified : Bool
  is_identified = same_names (identifier conflict name s left) id

  -- so the group with this identifier is found by one filter and one comparison
  pub group_named_by_filter : group_named conflict name s id ≡ cond is_identified (Some left) None
  group_named_by_filter = elim (cases_Bool is_identified) [
    | inl t ↦
        (let e = same_names-true (identifier conflict name s left) id t in
        (group_named_is conflict name s id left apart once).1 (left_is_group e, e) ∙ (λ i. cond (sym t i) (Some left) None))
    | inr f ↦ none f (group_named conflict name s id) refl ∙ (λ i. cond (sym f i) (Some left) None)
  ]
    where
      none : is_identified ≡ false → (r : Option (List X)) → group_named conflict name s id ≡ r → group_named conflict name s id ≡ None
      none f None e = e
      none f (Some g) e =
          let c = (group_named_is conflict name s id g apart once).0 e in
          absurd (true≢false (sym (ap (λ l. same_names (identifier conflict name s l) id) (group_is_left g c.0 c.1) ∙ ap (λ l. same_names l id) c.1 ∙ same_names-refl id) ∙ f))

pub found_by_one_filter : {X : Type 0} (conflict : X → X → Bool) (name : X → Name) (s : List X) (id : List Name) → HasNoRepeats s
    → ((x y : X) → Contains s x → Contains s y → name x ≡ name y → x ≡ y)
    → ((x y : X) → Contains s x → Contains s y → conflict x y ≡ conflict y x)
    → group_named conflict name s id ≡ cond (same_names (identifier conflict name s (compatible_with_named conflict name s id)) id) (Some (compatible_with_named conflict name s id)) None
found_by_one_filter conflict name s id o apart symmetric =
    group_named_by_filter conflict name s (λ x y m n. apart x y (Contains-from_In x s m) (Contains-from_In y s n)) (Once-from_HasNoRepeats s o) (λ x y m n. symmetric x y (Contains-from_In x s m) (Contains-from_In y s n)) id
