-- What a drop does: to the groups that hold it, to the puts beside it, and to what is shown.
use Rattle.std.proofs.Common.{◌≡◌, Bool, true, false, cond, List, [], ◌∷◌, refl, sym, ap, ◌∙◌, subst, inl, inr, not}
use Rattle.std.specs.Prelude.{Contains, IsTrue, is_some}
use Rattle.std.specs.List.{list_any}
use Rattle.std.proofs.lemmas.Bool.{cases_Bool, true≢false, and_from, and_parts, and_right, or_right, false_from_ne_true, not_from_false}
use Rattle.base_types.specs.Names.{Name}
use Rattle.base_types.specs.Texts.{Bytes}
use Rattle.rules.specs.declared.history.Op.{Op}
use Rattle.rules.specs.declared.version.Shown.{Shown}
use Rattle.rules.specs.declared.version.Shown.TheVariants.{Attrs, Gone}
use Rattle.rules.specs.AttrLists.{Attr}
use Rattle.rules.specs.Bodies.{is_change_body, is_put_body, is_drop_body, differ_on_a_key, is_one_a_drop, are_at_odds, value_of_body}
use Rattle.rules.specs.Operations.{IsHistory, before, concurrent, changes_on, creation_of}
use Rattle.rules.specs.Operations.{holds_drop, is_change_on, is_on, known, object_of}
use Rattle.rules.specs.steps.Histories.{same_op}
use Rattle.rules.specs.Conflicts.{base, conflict, direct_conflict, members, with_base, IsFounded}
use Rattle.rules.specs.Groups.{groups_of}
use Rattle.rules.specs.Versions.{attributes, decides, groups, initial_of, shown_of, version_of}
use Rattle.rules.proofs.Lists.{In, In-from_Contains, Contains-from_In, any_from, any_back}
use Rattle.rules.proofs.Bodies.{put_and_drop, two_drops}
use Rattle.rules.proofs.Counted.{same_name-true, same_name-refl}
use Rattle.rules.proofs.Changes.{in_changes_on_back, in_known, in_known_back, one_op, Once-changes_on}
use Rattle.rules.proofs.Groups.{group_in, group_is, group_within}
use Rattle.rules.proofs.Bases.{base_within_known}
use Rattle.rules.proofs.Growth.{extension, extension_is_group, in_extension, keeps}
use Rattle.rules.proofs.Nested.{left_out_conflicts, object_if}
use Rattle.rules.proofs.Relation.{conflict_self, conflict_symmetric}
use Rattle.rules.proofs.Parts.{some_if}
use Rattle.rules.proofs.Reordered.{SameMembers, any_same, attributes_reordered}

-- ---- what is shown

pub drop_there : (a : Op) (g : List Op) → In a g → is_drop_body a.body ≡ true → holds_drop g ≡ true
drop_there a g m t = any_from (λ (op : Op). is_drop_body op.body) a g m t

-- a group that holds a drop is gone
pub gone_if : (initial : List Attr) (g : List Op) → holds_drop g ≡ true → shown_of initial g ≡ Gone
unfolding shown_of
gone_if initial g e = ap (λ b. cond b Gone (Attrs (attributes initial g))) e

-- of any other its attributes are shown
pub attributes_if : (initial : List Attr) (g : List Op) → holds_drop g ≡ false → shown_of initial g ≡ Attrs (attributes initial g)
unfolding shown_of
attributes_if initial g e = ap (λ b. cond b Gone (Attrs (attributes initial g))) e

is_gone : Shown → Bool
is_gone (Attrs attrs) = false
is_gone Gone = true

pub drop_if_gone : (initial : List Attr) (g : List Op) → shown_of initial g ≡ Gone → holds_drop g ≡ true
unfolding is_gone
drop_if_gone initial g e = elim (cases_Bool (holds_drop g)) [
  | inl t ↦ t
  | inr f ↦ absurd (true≢false (sym (ap is_gone e) ∙ ap is_gone (attributes_if initial g f)))
]

pub shown_as_gone : (h : List Op) (object : Name) (g : List Op) (a : Op) → Contains g a → IsTrue (is_drop_body a.body) → (version_of h object g).shown ≡ Gone
unfolding version_of
shown_as_gone h object g a m t = gone_if (initial_of (creation_of h object)) g (drop_there a g (In-from_Contains a g m) t)

pub dropped_if_gone : (h : List Op) (object : Name) (g : List Op) → (version_of h object g).shown ≡ Gone → (a : Op) × Contains g a × IsTrue (is_drop_body a.body)
unfolding version_of
dropped_if_gone h object g e =
    let c = any_back (λ (op : Op). is_drop_body op.body) g (drop_if_gone (initial_of (creation_of h object)) g e) in
    (c.0, Contains-from_In c.0 g c.1, c.2)

pub shown_as_attributes : (h : List Op) (object : Name) (g : List Op) → holds_drop g ≡ false → (version_of h object g).shown ≡ Attrs (attributes (initial_of (creation_of h object)) g)
unfolding version_of
shown_as_attributes h object g e = attributes_if (initial_of (creation_of h object)) g e

-- in whatever order its operations are listed, the same is shown of a group
pub shown_reordered : (f g : List Op) → SameMembers f g → (initial : List Attr)
    → ((key : Bytes) (a b : Op) → In a f → In b f → decides key f a ≡ true → decides key f b ≡ true → value_of_body key a.body ≡ value_of_body key b.body)
    → shown_of initial f ≡ shown_of initial g
unfolding shown_of
shown_reordered f g w initial one = λ i. cond (any_same (λ (op : Op). is_drop_body op.body) f g w i) Gone (Attrs (attributes_reordered f g w initial one i))

-- ---- puts beside drops

at_odds : (a b : Op) → is_put_body a.body ≡ true → is_drop_body b.body ≡ true → are_at_odds a.body b.body ≡ true
at_odds a b p d = or_right (differ_on_a_key a.body b.body) (is_one_a_drop a.body b.body) (put_and_drop a.body b.body p d)

direct_if : (a b : Op) → is_put_body a.body ≡ true → is_drop_body b.body ≡ true → concurrent a b ≡ true → direct_conflict a b ≡ true
direct_if a b p d e = and_from (concurrent a b) (are_at_odds a.body b.body) e (at_odds a b p d)

-- a put is in conflict with each concurrent drop
pub put_in_conflict : (h : List Op) (a b : Op) → IsTrue (is_put_body a.body) → IsTrue (is_drop_body b.body) → IsTrue (concurrent a b) → conflict h a b ≡ true
unfolding conflict
put_in_conflict h a b p d e =
    any_from (λ x. list_any (direct_conflict x) (with_base (base h) b)) a (with_base (base h) a) (inl refl)
    (any_from (direct_conflict a) b (with_base (base h) b) (inl refl) (direct_if a b p d e))

-- two concurrent drops don't conflict directly
pub drops_apart : (a b : Op) → IsTrue (is_drop_body a.body) → IsTrue (is_drop_body b.body) → direct_conflict a b ≡ false
drops_apart a b p q = and_right (concurrent a b) (are_at_odds a.body b.body) (two_drops a.body b.body p q)

-- ---- a drop is the last that happens to its version

module _ {h : List Op} (i : IsHistory h) where
  -- what an operation with a base knows and isn't in conflict with is in the base
  in_base : (a b : Op) → Contains h a → Contains h b → is_some (base h b) ≡ true → is_change_on (object_of b) a ≡ true → before a b ≡ true → conflict h a b ≡ false → In a (members (base h b))
  in_base a b ma mb s o t free = elim (cases_Bool (list_any (same_op a) (members (base h b)))) [
    | inl e ↦
        (let c = any_back (same_op a) (members (base h b)) e in
        let there = (in_known_back h b c.0 (base_within_known i b c.0 mb c.1)).there in
        subst (λ x. In x (members (base h b))) (sym (one_op i a c.0 (In-from_Contains a h ma) there (same_name-true a.name c.0.name c.2))) c.1)
    | inr e ↦
        (let g = some_if (base h b) s in
        let k = Contains-from_In a (known h b) (in_known h b a (In-from_Contains a h ma) o t) in
        let out : Contains g.0 a → ⊥ = λ l.
        let m : In a (members (base h b)) = subst (λ r. In a (members r)) (sym g.1) (In-from_Contains a g.0 l) in
        true≢false (sym (any_from (same_op a) a (members (base h b)) m (same_name-refl a.name a.name refl)) ∙ e) in
        absurd (true≢false (sym (left_out_conflicts i a b g.0 mb g.1 k out) ∙ free)))
  ]

  -- the members of a group of an object are changes of it in the history
  of_group : (object : Name) (g : List Op) → Contains (groups h object) g → (x : Op) → Contains g x → Contains h x × (is_change_on object x ≡ true)
  unfolding groups
  of_group object g group x m =
      let c = in_changes_on_back h object x (group_within (conflict h) (changes_on h object) g (In-from_Contains g (groups h object) group) x (In-from_Contains x g m)) in
      (Contains-from_In x h c.0, c.1)

  -- of two changes of an object the one before the other is in its base, where they aren't in conflict
  in_base_of : IsFounded h → (object : Name) (a b : Op) → Contains h a → Contains h b → is_change_on object a ≡ true → is_change_on object b ≡ true → before a b ≡ true → conflict h a b ≡ false → In a (members (base h b))
  in_base_of founded object a b ma mb p q t free =
      in_base a b ma mb (founded.based b mb (and_parts (is_change_body b.body) (is_on object b) q).0)
      (subst (λ n. is_change_on n a ≡ true) (sym (object_if b object q)) p) t free

  -- each put of a group that holds a drop is in the drop's base
  pub put_in_base : IsFounded h → (object : Name) (g : List Op) (a d : Op) → Contains (groups h object) g → Contains g a → IsTrue (is_put_body a.body) → Contains g d → IsTrue (is_drop_body d.body) → Contains (members (base h d)) a
  unfolding groups
  put_in_base founded object g a d group ma p md q =
      let is = group_is (conflict h) (changes_on h object) g (In-from_Contains g (groups h object) group) in
      let there = of_group object g group in
      let ca = there a ma in
      let cd = there d md in
      let free : conflict h a d ≡ false = is.compatible a d ma md in
      elim (cases_Bool (before a d)) [
        | inl t ↦ Contains-from_In a (members (base h d)) (in_base_of founded object a d ca.0 cd.0 ca.1 cd.1 t free)
        | inr f ↦ elim (cases_Bool (before d a)) [
          | inl t ↦
              (let held = in_base_of founded object d a cd.0 ca.0 cd.1 ca.1 t (conflict_symmetric h d a ∙ free) in
              absurd (true≢false (sym (drop_there d (members (base h a)) held q) ∙ founded.alive a ca.0 (and_parts (is_change_body a.body) (is_on object a) ca.1).0)))
          | inr k ↦
              (let apart : concurrent a d ≡ true = and_from (not (before a d)) (not (before d a)) (not_from_false _ f) (not_from_false _ k) in
              absurd (true≢false (sym (put_in_conflict h a d p q apart) ∙ free)))
        ]
      ]

  -- ---- nothing is lost

  -- each change stands in a group
  pub stands : IsFounded h → (object : Name) (a : Op) → Contains (changes_on h object) a → (g : List Op) × Contains (groups h object) g × Contains g a
  unfolding groups
  stands founded object a m =
      let s = changes_on h object in
      let symmetric : (x y : Op) → In x s → In y s → conflict h x y ≡ conflict h y x = λ x y p q. conflict_symmetric h x y in
      let never : (x : Op) → In x s → conflict h x x ≡ false = λ x p.
      let c = in_changes_on_back h object x p in
      let here = Contains-from_In x h c.0 in
      let b = some_if (base h x) (founded.based x here (and_parts (is_change_body x.body) (is_on object x) c.1).0) in
      conflict_self i x here b.0 b.1 in
      let there = In-from_Contains a s m in
      let one : List Op = a ∷ [] in
      let within : (x : Op) → In x one → In x s = λ x p. elim p [ inl e ↦ subst (λ z. In z s) (sym e) there | inr z ↦ absurd z ] in
      let free : (x y : Op) → In x one → In y one → conflict h x y ≡ false = λ x y p q. elim p [
        | inl e ↦ elim q [ inl f ↦ (λ j. conflict h (e j) (f j)) ∙ never a there | inr z ↦ absurd z ]
        | inr z ↦ absurd z
      ] in
      let g = extension (conflict h) s symmetric never one in
      let is = extension_is_group (conflict h) s symmetric never one within free in (
        g,
        Contains-from_In g (groups_of (conflict h) s) (group_in (conflict h) s g (Once-changes_on i object) is),
        Contains-from_In a g (in_extension (conflict h) s symmetric never one within free a (keeps (conflict h) s symmetric never one s a (inl refl))),
      )

  -- a version with a put that is in no drop's base is shown by its attributes
  pub shown_if_in_no_base : IsFounded h → (object : Name) (g : List Op) (a : Op) → Contains (groups h object) g → Contains g a → IsTrue (is_put_body a.body)
      → ((d : Op) → Contains h d → IsTrue (is_drop_body d.body) → Contains (members (base h d)) a → ⊥)
      → (version_of h object g).shown ≡ Attrs (attributes (initial_of (creation_of h object)) g)
  shown_if_in_no_base founded object g a group ma p none =
      shown_as_attributes h object g (false_from_ne_true (holds_drop g) (λ t.
      let c = any_back (λ (op : Op). is_drop_body op.body) g t in
      let md = Contains-from_In c.0 g c.1 in
      none c.0 (of_group object g group c.0 md).0 c.2 (put_in_base founded object g a c.0 group ma p md c.2)))
