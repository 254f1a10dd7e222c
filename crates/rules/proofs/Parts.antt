-- What histories have in common: with a part of them, with another that has the same past, with one operation more.
use Rattle.std.proofs.Common.{◌≡◌, ◌+◌, ◌≤◌, true, List, [], ◌∷◌, ◌++◌, length, refl, sym, ap, ◌∙◌, subst, arith, inl, inr, Option, Some, None, ◌||◌}
use Rattle.std.specs.Prelude.{IsTrue, Contains, filter, is_some}
use Rattle.std.proofs.lemmas.Bool.{true≢false, and_parts, or_cases, or_left, or_right}
use Rattle.std.proofs.lemmas.List.Elements.{Contains-append_left, Contains-push_cases}
use Rattle.base_types.specs.Names.{Name}
use Rattle.base_types.specs.Vectors.{counts}
use Rattle.rules.specs.declared.history.Op.{Op}
use Rattle.rules.specs.Bodies.{is_change_body}
use Rattle.rules.specs.Groups.{groups_of}
use Rattle.rules.specs.Operations.{IsHistory, before, changes_on, known, is_on}
use Rattle.rules.specs.steps.Histories.{IsPartOf, is_past, same_op}
use Rattle.rules.specs.Conflicts.{base, conflict, IsFounded}
use Rattle.rules.specs.Versions.{groups}
use Rattle.rules.proofs.Lists.{In, In-from_Contains, Contains-from_In, In-filter, In-filter_back}
use Rattle.rules.proofs.Once.{Once-filter, Once-from_HasNoRepeats, HasNoRepeats-from_Once}
use Rattle.rules.proofs.Counted.{same_name-true, same_name-refl}
use Rattle.rules.proofs.Changes.{in_changes_on, in_changes_on_back, in_known_back, known_same, Once-changes_on}
use Rattle.rules.proofs.Groups.{groups_agree}
use Rattle.rules.proofs.Growth.{groups_grow}
use Rattle.rules.proofs.Relation.{conflict_symmetric, conflict_self, not_before_self}
use Rattle.rules.proofs.Agreement.{base_on, base_in_part, conflict_in_part}

pub some_if : {X : Type 0} (r : Option X) → is_some r ≡ true → (x : X) × (r ≡ Some x)
some_if None e = absurd (true≢false (sym e))
some_if (Some x) e = (x, refl)

-- a part of a history has at most as many groups on an object as the whole
pub group_count_in_part : (k h : List Op) (object : Name) → IsPartOf k h → IsFounded h → length (groups k object) ≤ length (groups h object)
unfolding groups
group_count_in_part k h object w f =
    let there : (a : Op) → In a (changes_on k object) → Contains k a = λ a m. Contains-from_In a k (in_changes_on_back k object a m).0 in
    let same : groups_of (conflict k) (changes_on k object) ≡ groups_of (conflict h) (changes_on k object) =
    groups_agree (conflict k) (conflict h) (changes_on k object) (λ x y m n. conflict_in_part w x y (there x m) (there y n)) in
    let grow = groups_grow (conflict h) (changes_on h object) (λ x y m n. conflict_symmetric h x y)
    (λ x m.
    let c = in_changes_on_back h object x m in
    let here = Contains-from_In x h c.0 in
    let b = some_if (base h x) (f.based x here (and_parts (is_change_body x.body) (is_on object x) c.1).0) in
    conflict_self w.whole x here b.0 b.1)
    (changes_on k object) (Once-changes_on w.part object) (Once-changes_on w.whole object)
    (λ x m. let c = in_changes_on_back k object x m in in_changes_on h object x (In-from_Contains x h (w.within x (Contains-from_In x k c.0))) c.1) in
    omega (arith, grow, ap length same)

-- ---- two histories that agree on two operations and all before them

module _ {h : List Op} (i : IsHistory h) (a b : Op) (ma : Contains h a) (mb : Contains h b) where
  abbrev in_past : Op → Rattle.std.proofs.Common.Bool
  in_past x = is_past a x || is_past b x

  -- the two and what is before them
  abbrev pub past : List Op
  past = filter in_past h

  there : (x : Op) → Contains past x → Contains h x
  there x m = Contains-from_In x h (In-filter_back in_past x h (In-from_Contains x past m)).0

  here : (x : Op) → Contains h x → in_past x ≡ true → Contains past x
  here x m e = Contains-from_In x past (In-filter in_past x h (In-from_Contains x h m) e)

  -- what an operation of the past counts is in the past
  counted : (c x n : Op) → Contains h c → Contains h x → Contains h n → is_past c x ≡ true → before n x ≡ true → is_past c n ≡ true
  counted c x n mc mx mn e t = or_right (same_op n c) (before n c) (elim (or_cases (same_op x c) (before x c) e) [
    | inl q ↦ subst (λ z. before n z ≡ true) (i.distinct x c mx mc (same_name-true x.name c.name q)) t
    | inr q ↦ i.closed x c n.name mx mc q t
  ])

  past_holds : (x n : Op) → Contains past x → Contains h n → before n x ≡ true → Contains past n
  past_holds x n m mn t =
      let mx = there x m in
      here n mn (elim (or_cases (is_past a x) (is_past b x) (In-filter_back in_past x h (In-from_Contains x past m)).1) [
        | inl q ↦ or_left (is_past a n) (is_past b n) (counted a x n ma mx mn q t)
        | inr q ↦ or_right (is_past a n) (is_past b n) (counted b x n mb mx mn q t)
      ])

  itself : (x : Op) → is_past x x ≡ true
  itself x = or_left (same_op x x) (before x x) (same_name-refl x.name x.name refl)

  past_history : IsHistory past
  past_history = record {
    once = HasNoRepeats-from_Once past (Once-filter in_past h (Once-from_HasNoRepeats h i.once));
    distinct = λ x y m n e. i.distinct x y (there x m) (there y n) e;
    vector = λ x m. i.vector x (there x m);
    own = λ x m. i.own x (there x m);
    present = λ x n m l e. (let c = i.present x n (there x m) l e in (c.0, past_holds x c.0 m c.1 (ap (counts x.seen) c.2 ∙ e), c.2));
    closed = λ x y n m k e f. i.closed x y n (there x m) (there y k) e f;
  }

  past_in : {k : List Op} → IsHistory k → ((x : Op) → Contains h x → IsTrue (in_past x) → Contains k x) → IsPartOf past k
  past_in j f = record { part = past_history; whole = j; within = λ x m. f x (there x m) (In-filter_back in_past x h (In-from_Contains x past m)).1 }

  -- agree on whether the two conflict
  pub conflict_by_past : {k : List Op} → IsHistory k → ((x : Op) → Contains h x → IsTrue (in_past x) → Contains k x) → conflict h a b ≡ conflict k a b
  conflict_by_past j f =
      let first = here a ma (or_left (is_past a a) (is_past b a) (itself a)) in
      let second = here b mb (or_right (is_past a b) (is_past b b) (itself b)) in
      sym (conflict_in_part (past_in i (λ x m e. m)) a b first second) ∙ conflict_in_part (past_in j f) a b first second

-- two histories that agree on an operation and all before it agree on its base
pub base_by_past : {h k : List Op} → IsHistory h → IsHistory k → (b : Op) → Contains h b → ((x : Op) → Contains h x → IsTrue (is_past b x) → Contains k x) → base h b ≡ base k b
base_by_past {h} {k} i j b m f =
    let either : (x : Op) → Contains h x → IsTrue (is_past b x || is_past b x) → Contains k x = λ x n e. f x n (elim (or_cases (is_past b x) (is_past b x) e) [ inl q ↦ q | inr q ↦ q ]) in
    let own = here i b b m m b m (or_left (is_past b b) (is_past b b) (itself i b b m m b)) in
    sym (base_in_part (past_in i b b m m i (λ x n e. n)) b own) ∙ base_in_part (past_in i b b m m j either) b own

-- ---- an operation that is about to be added

module _ {h : List Op} (o : Op) (i : IsHistory h) (j : IsHistory (h ++ o ∷ [])) where
  abbrev grown : List Op
  grown = h ++ o ∷ []

  pub part_of_grown : IsPartOf h grown
  part_of_grown = record { part = i; whole = j; within = λ x m. Contains-append_left h (o ∷ []) x m }

  added : Contains grown o
  added = Rattle.std.proofs.lemmas.List.Elements.Contains-push h o

  not_itself : (a : Op) → In a grown → before a o ≡ true → In a h
  not_itself a m t = elim (Contains-push_cases h o a (Contains-from_In a grown m)) [
    | inl p ↦ In-from_Contains a h p
    | inr e ↦ absurd (true≢false (sym (ap (λ (x : Op). before x o) e ∙ t) ∙ not_before_self j o added))
  ]

  known_before_adding : known h o ≡ known grown o
  known_before_adding = known_same i j o (λ a m t. In-from_Contains a grown (Contains-append_left h (o ∷ []) a (Contains-from_In a h m))) not_itself

  -- its base in the history so far is its base once it is added
  pub base_before_adding : base h o ≡ base grown o
  base_before_adding =
      base_on (λ x. known h x ≡ known grown x) h grown (λ x e. e)
      (λ x y e m. Rattle.rules.proofs.Agreement.known_in_part part_of_grown y (Contains-from_In y h (in_known_back h x y m).there))
      o known_before_adding
