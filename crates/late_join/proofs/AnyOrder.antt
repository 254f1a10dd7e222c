-- Each causal order of a legal record is a takeable list, and its operations are those of the record.
use Rattle.std.proofs.Common.{◌≡◌, ℕ, ◌+◌, ◌<◌, ◌≤◌, Bool, true, false, cond, not, List, [], ◌∷◌, ◌++◌, length, map, refl, sym, ap, ◌∙◌, subst, arith, inl, inr, Option, Some, None, eqb, leb, ltb, ◌&&◌, ◌||◌, append_assoc, length-append}
use Rattle.std.specs.Prelude.{Contains, filter, is_none, is_some}
use Rattle.std.specs.List.{range_with_len}
use Rattle.std.specs.List.Sorted.{IsPermutation}
use Rattle.std.proofs.lemmas.Bool.{true≢false, cases_Bool, and_parts, and_from, and_right, not-false, not-true, not_from_false, false_from_ne_true, le-leb, lt-leb, le-ltb, ne_eqb, eqb-true, eq-eqb, cases_order}
use Rattle.std.proofs.lemmas.List.{length-map}
use Rattle.std.proofs.lemmas.List.Elements.{Contains-push}
use Rattle.std.proofs.lemmas.List.Sums.{length-filter}
use Rattle.std.proofs.lemmas.List.Sorted.{IsPermutation-sym, length_permutation}
use Rattle.base_types.specs.Names.{Name, same_name}
use Rattle.base_types.specs.Vectors.{count_of, counts, covers}
use Rattle.rules.specs.declared.history.Op.{Op}
use Rattle.rules.specs.declared.history.Entry.{Entry}
use Rattle.rules.specs.declared.history.Entry.TheVariants.{Join, Next, Operation}
use Rattle.rules.specs.declared.refusal.Refusal.TheVariants.{RoomFull, RecordFull, OwnCount, NotClosed, NoSuchObject, NoSuchVersion, Gone, ObjectFull, TooManyKeys, TooManyVersions, TooManyObjects}
use Rattle.rules.specs.declared.limits.LimitValues.{LimitValues}
use Rattle.rules.specs.Bodies.{is_change_body, is_put_body, kind_of_body}
use Rattle.rules.specs.Limits.{full_limits}
use Rattle.rules.specs.Operations.{IsHistory, before, creation_of, holds_drop, is_creation_of}
use Rattle.rules.specs.Operations.{is_on, is_change_on, object_of, operation, changes_on}
use Rattle.rules.specs.steps.Histories.{IsPartOf, AreSame}
use Rattle.rules.specs.Admission.{Condition, first_that_applies, names_counted, count_at_site, has_wrong_seq, has_wrong_own_count, is_ahead, is_not_closed}
use Rattle.rules.specs.Conflicts.{base, has_object, members, IsFounded}
use Rattle.rules.specs.Versions.{groups, keys_of, versions}
use Rattle.rules.specs.Records.{has_ended, is_end, operation_in, operations, objects, creation_conditions, change_conditions, has_too_many_keys, has_too_many_versions, IsLegal, EachAfter}
use Rattle.rules.proofs.Lists.{In, In-from_Contains, Contains-from_In, In-append_cases, In-append_left, In-append_right, In-filter, In-filter_back, In-filter_map, In-filter_map_back, In-map_back, In-range, any_from, any_back, any_none, find_is}
use Rattle.rules.proofs.Once.{Once, Once-from_HasNoRepeats, HasNoRepeats-from_Once, Once-map, Once-filter, length_within}
use Rattle.rules.proofs.Permutations.{in_permutation, once_permutation}
use Rattle.rules.proofs.Counted.{In-names_counted, covers_if, found, same_name-refl, same_name-true}
use Rattle.rules.proofs.Changes.{in_changes_on, in_changes_on_back, Once-changes_on}
use Rattle.rules.proofs.Conditions.{is_none_if}
use Rattle.rules.proofs.Records.{operations-end, operations-join, operations-push}
use Rattle.rules.proofs.Founded.{history_if_legal, founded_if_legal}
use Rattle.rules.proofs.Histories.{count_at_site_push}
use Rattle.rules.proofs.Agreement.{base_in_part}
use Rattle.rules.proofs.Parts.{base_before_adding, group_count_in_part}
use Rattle.rules.proofs.Keys.{keys_within}
use Rattle.rules.proofs.Versions.{versions_same}
use Rattle.shape.proofs.Next.{numbered_if}
use Rattle.shape.proofs.Objects.{creation_there}
use Rattle.shape.proofs.Refusals.{passed}
use Rattle.shape.specs.steps.Objects.{IsOf}
use Rattle.wire.specs.declared.reply.Reply.TheVariants.{No, Versions}
use Rattle.drawing.specs.steps.Objects.{object_with_changes}
use Rattle.drawing.specs.Shown.{shown, shown_by}
use Rattle.late_join.specs.Taking.{is_join_of, has_joined, lacks_another, may_take, has_past, IsTakeable, IsCausalOrderOf}
use Rattle.late_join.proofs.Taken.{taken_from, sound}
use Rattle.late_join.proofs.Within.{IsWithin, within}

-- ---- lists

once_front : {X : Type 0} (xs ys : List X) → Once (xs ++ ys) → Once xs
once_front [] ys o = tt
once_front (x ∷ xs) ys o = ((λ m. o.0 (In-append_left x xs ys m)), once_front xs ys o.1)

apart : {X : Type 0} (xs : List X) (y : X) (ys : List X) → Once (xs ++ y ∷ ys) → In y xs → ⊥
apart [] y ys o m = m
apart (x ∷ xs) y ys o m = elim m [ inl e ↦ o.0 (subst (λ z. In z (xs ++ y ∷ ys)) e (In-append_right y xs (y ∷ ys) (inl refl))) | inr r ↦ apart xs y ys o.1 r ]

entry_is : (e : Entry) (p : Op) → operation_in e ≡ Some p → e ≡ Operation p
entry_is (Join site) p q = cc
entry_is (Next count) p q = cc
entry_is (Operation op) p q = (let s : op ≡ p = cc in ap Operation s)

once_operations : (t : List Entry) → Once t → Once (operations t)
once_operations [] o = tt
once_operations (Join site ∷ t) o = once_operations t o.1
once_operations (Next count ∷ t) o = once_operations t o.1
once_operations (Operation p ∷ t) o = (
  (λ m. let c = In-filter_map_back operation_in p t m in o.0 (subst (λ z. In z t) (entry_is c.0 p c.2) c.1)),
  once_operations t o.1,
)

length_range : (a c : ℕ) → length (range_with_len a c) ≡ c
length_range a Rattle.std.proofs.Common.zero = refl
length_range a (Rattle.std.proofs.Common.suc c) = let h = length_range (a + 1) c in omega (arith, h)

-- ---- what operations count is among them

abbrev IsClosed : List Op → Type 0
IsClosed h = (x : Op) (n : Name) → In x h → 1 ≤ n.1 → counts x.seen n ≡ true → (a : Op) × In a h × (a.name ≡ n)

-- what an operation counts that has its past
counted : (t : List Entry) (o : Op) → has_past t (Operation o) ≡ true → (n : Name) → 1 ≤ n.1 → counts o.seen n ≡ true → (a : Op) × In a (operations t) × (a.name ≡ n)
counted t o past n low c =
    let h = operations t in
    let ahead : is_ahead h o.seen ≡ false = not-true (is_ahead h o.seen) (and_parts (has_joined t o.name.0) (not (is_ahead h o.seen)) past).1 in
    let there = not-false _ (any_none (λ n. not (is_some (operation h n))) n (names_counted o.seen) ahead (In-names_counted o.seen n low c)) in
    let a = found h n there in
    (a.0, In-from_Contains a.0 h a.1, a.2)

closed_push : (t : List Entry) (o : Op) → has_past t (Operation o) ≡ true → IsClosed (operations t) → IsClosed (operations t ++ o ∷ [])
closed_push t o past k x n m low c =
    let h = operations t in
    let grow : ((a : Op) × In a h × (a.name ≡ n)) → (a : Op) × In a (h ++ o ∷ []) × (a.name ≡ n) = λ a. (a.0, In-append_left a.0 h (o ∷ []) a.1, a.2) in
    elim (In-append_cases x h (o ∷ []) m) [
      | inl l ↦ grow (k x n l low c)
      | inr r ↦ elim r [
        | inl e ↦ grow (counted t o past n low (sym (ap (λ (z : Op). counts z.seen n) e) ∙ c))
        | inr z ↦ absurd z
      ]
    ]

-- ---- a record and another order of it

module _ (b : LimitValues) (r t : List Entry) (legal : IsLegal b r) (order : IsPermutation r t) where
  abbrev H : List Op
  H = operations r

  w : IsWithin b r
  w = within b r legal

  whole : IsHistory H
  whole = history_if_legal b r legal

  founded : IsFounded H
  founded = founded_if_legal b r legal

  once : Once t
  once = once_permutation r t order w.once

  in_record : (e : Entry) → In e t → In e r
  in_record e m = in_permutation e t r (IsPermutation-sym r t order) m

  in_whole : (x : Op) → In x (operations t) → In x H
  in_whole x m = let c = In-filter_map_back operation_in x t m in In-filter_map operation_in c.0 x r (in_record c.0 c.1) c.2

  pub from_whole : (x : Op) → In x H → In x (operations t)
  from_whole x m = let c = In-filter_map_back operation_in x r m in In-filter_map operation_in c.0 x t (in_permutation c.0 r t order c.1) c.2

  module _ (front later : List Entry) (is : front ++ later ≡ t) where
    front_in : (e : Entry) → In e front → In e t
    front_in e m = subst (λ l. In e l) is (In-append_left e front later m)

    front_whole : (x : Op) → In x (operations front) → In x H
    front_whole x m = let c = In-filter_map_back operation_in x front m in in_whole x (In-filter_map operation_in c.0 x t (front_in c.0 c.1) c.2)

    up : (x : Op) → Contains (operations front) x → Contains H x
    up x m = Contains-from_In x H (front_whole x (In-from_Contains x (operations front) m))

    -- a front that holds what it counts is a history
    pub front_part : IsClosed (operations front) → IsPartOf (operations front) H
    front_part k = record {
      part = record {
        once = HasNoRepeats-from_Once (operations front) (once_operations front (once_front front later (subst Once (sym is) once)));
        distinct = λ x y m n e. whole.distinct x y (up x m) (up y n) e;
        vector = λ x m. whole.vector x (up x m);
        own = λ x m. whole.own x (up x m);
        present = λ x n m low e. (let c = k x n (In-from_Contains x (operations front) m) low e in (c.0, Contains-from_In c.0 (operations front) c.1, c.2));
        closed = λ x y n m l e f. whole.closed x y n (up x m) (up y l) e f;
      };
      whole = whole;
      within = up;
    }

  module _ (front : List Entry) (e : Entry) (later : List Entry) (is : front ++ e ∷ later ≡ t) where
    place : length front < b.entries
    place =
        let n = length_permutation r t order in
        let m = ap length (sym is) in
        let l = length-append front (e ∷ later) in
        omega (arith, n, m, l, w.length)

    new : In e front → ⊥
    new = apart front e later (subst Once (sym is) once)

    here : In e r
    here = in_record e (subst (λ l. In e l) is (In-append_right e front (e ∷ later) (inl refl)))

  join_of : (site : ℕ) (e : Entry) → is_join_of site e ≡ true → e ≡ Join site
  join_of site (Join other) t = ap Join (eqb-true other site t)
  join_of site (Operation op) t = absurd (true≢false (sym t))
  join_of site (Next count) t = absurd (true≢false (sym t))

  -- a join may be taken
  take_join : (front : List Entry) (site : ℕ) (later : List Entry) → front ++ Join site ∷ later ≡ t → may_take b front (Join site) ≡ true
  take_join front site later is =
      let fresh : has_joined front site ≡ false = false_from_ne_true (has_joined front site) (λ t.
      let c = any_back (is_join_of site) front t in new front (Join site) later is (subst (λ z. In z front) (join_of site c.0 c.2) c.1)) in
      let range = w.joins site (here front (Join site) later is) in
      let low : eqb site 0 ≡ false = ne_eqb site 0 (λ z. omega (arith, range.0, z)) in
      let high : ltb b.joins site ≡ false = le-ltb b.joins site (omega (arith, range.1, w.few)) in
      let bounded : eqb site 0 || ltb b.joins site ≡ false = rw (low, high) refl in
      taken_from b front (Join site) refl fresh refl (
      passed (eqb site 0 || ltb b.joins site, RoomFull) ((leb b.entries (length front), RecordFull) ∷ []) bounded
      ∙ passed (leb b.entries (length front), RecordFull) [] (lt-leb b.entries (length front) (place front (Join site) later is))
      )

  end_of : (e : Entry) → is_end e ≡ true → (count : ℕ) × (e ≡ Next count)
  end_of (Join site) t = absurd (true≢false (sym t))
  end_of (Operation op) t = absurd (true≢false (sym t))
  end_of (Next count) t = (count, refl)

  -- the end may be taken: no other stands before it
  take_end : (front : List Entry) (count : ℕ) (later : List Entry) → front ++ Next count ∷ later ≡ t → may_take b front (Next count) ≡ true
  take_end front count later is =
      let fresh : has_ended front ≡ false = false_from_ne_true (has_ended front) (λ ended.
      let c = any_back is_end front ended in
      let d = end_of c.0 c.2 in
      let there : In (Next d.0) front = subst (λ z. In z front) d.1 c.1 in
      let same : d.0 ≡ count = w.ends d.0 count (in_record (Next d.0) (front_in front (Next count ∷ later) is (Next d.0) there)) (here front (Next count) later is) in
      new front (Next count) later is (subst (λ k. In (Next k) front) same there)) in
      taken_from b front (Next count) refl fresh refl
      (passed (leb b.entries (length front), RecordFull) [] (lt-leb b.entries (length front) (place front (Next count) later is)))

  module _ (front : List Entry) (o : Op) (later : List Entry) (is : front ++ Operation o ∷ later ≡ t) (closed : IsClosed (operations front)) (past : has_past front (Operation o) ≡ true) where
    abbrev h : List Op
    h = operations front

    in_h : In o H
    in_h = In-filter_map operation_in (Operation o) o r (here front (Operation o) later is) refl

    there : Contains H o
    there = Contains-from_In o H in_h

    not_yet : In o h → ⊥
    not_yet m = let c = In-filter_map_back operation_in o front m in new front (Operation o) later is (subst (λ z. In z front) (entry_is c.0 o c.2) c.1)

    part0 : IsPartOf h H
    part0 = front_part front (Operation o ∷ later) is closed

    part1 : IsPartOf (h ++ o ∷ []) H
    part1 = subst (λ k. IsPartOf k H) (operations-push front o)
        (front_part (front ++ Operation o ∷ []) later (append_assoc front (Operation o ∷ []) later ∙ is)
        (subst IsClosed (sym (operations-push front o)) (closed_push front o past closed)))

    is_it : (x : Op) → In x h → x.name ≡ o.name → ⊥
    is_it x m e = not_yet (subst (λ z. In z h) (whole.distinct x o (part0.within x (Contains-from_In x h m)) there e) m)

    own : count_of o.seen o.name.0 + 1 ≡ o.name.1
    own = whole.own o there

    -- the site's operations that are there are the earlier ones
    below : (x : Op) → In x h → x.name.0 ≡ o.name.0 → x.name.1 < o.name.1
    below x m s = elim (cases_order x.name.1 o.name.1) [
      | inl e ↦ absurd (is_it x m (λ i. (s i, e i)))
      | inr l ↦ elim l [
        | inl low ↦ low
        | inr high ↦
            (let mine = whole.own x (part0.within x (Contains-from_In x h m)) in
            let k : count_of x.seen x.name.0 ≡ count_of x.seen o.name.0 = ap (count_of x.seen) s in
            let a = closed x o.name m (omega (arith, own)) (le-leb o.name.1 (count_of x.seen o.name.0) (omega (arith, high, mine, k))) in
            absurd (is_it a.0 a.1 a.2))
      ]
    ]

    abbrev at_site : Op → Bool
    at_site x = eqb x.name.0 o.name.0

    abbrev number : Op → ℕ
    number x = x.name.1

    few : count_at_site h o.name.0 < o.name.1
    few =
        let n = count_of o.seen o.name.0 in
        let at : (x : Op) → In x (filter at_site h) → In x h × (x.name.0 ≡ o.name.0) = λ x m. let c = In-filter_back at_site x h m in (c.0, eqb-true x.name.0 o.name.0 c.1) in
        let different : Once (map number (filter at_site h)) = Once-map number (filter at_site h) (λ x y m k e.
        let c = at x m in
        let d = at y k in
        let site = c.1 ∙ sym d.1 in
        whole.distinct x y (part0.within x (Contains-from_In x h c.0)) (part0.within y (Contains-from_In y h d.0)) (λ i. (site i, e i)))
        (Once-filter at_site h (Once-from_HasNoRepeats h part0.part.once)) in
        let inside = length_within (map number (filter at_site h)) (range_with_len 1 n) different (λ k m.
        let c = In-map_back number k (filter at_site h) m in
        let d = at c.0 c.1 in
        let mine = whole.own c.0 (part0.within c.0 (Contains-from_In c.0 h d.0)) in
        let less = below c.0 d.0 d.1 in
        let e = c.2 in
        In-range 1 n k (omega (arith, mine, e)) (omega (arith, less, own, e))) in
        let a : length (map number (filter at_site h)) ≡ count_at_site h o.name.0 = length-map (filter at_site h) number ∙ length-filter at_site h in
        let l = length_range 1 n in
        omega (arith, inside, a, l, own)

    next : o.name.1 ≡ count_at_site h o.name.0 + 1
    next =
        let m = (numbered_if part1.part).numbered o (Contains-push h o) in
        let t : eqb o.name.0 o.name.0 ≡ true = eq-eqb o.name.0 o.name.0 refl in
        let c : count_at_site (h ++ o ∷ []) o.name.0 ≡ count_at_site h o.name.0 + 1 = rw t at (count_at_site_push h o o.name.0) in
        omega (arith, m, c, few)

    fresh : leb o.name.1 (count_at_site h o.name.0) ≡ false
    fresh = lt-leb o.name.1 (count_at_site h o.name.0) few

    seq : has_wrong_seq h o.name ≡ false
    seq = let e = eq-eqb o.name.1 (count_at_site h o.name.0 + 1) next in rw e refl

    another : lacks_another h o ≡ false
    another = false_from_ne_true (lacks_another h o) (λ t.
        let c = any_back (λ n. not (eqb n.0 o.name.0) && not (is_some (operation h n))) (names_counted o.seen) t in
        let gone = (and_parts (not (eqb c.0.0 o.name.0)) (not (is_some (operation h c.0))) c.2).1 in
        let ahead : is_ahead h o.seen ≡ false = not-true (is_ahead h o.seen) (and_parts (has_joined front o.name.0) (not (is_ahead h o.seen)) past).1 in
        true≢false (sym gone ∙ any_none (λ n. not (is_some (operation h n))) c.0 (names_counted o.seen) ahead c.1))

    not_early : not (has_joined front o.name.0) || has_wrong_seq h o.name || lacks_another h o ≡ false
    not_early =
        let j = (and_parts (has_joined front o.name.0) (not (is_ahead h o.seen)) past).0 in
        let s = seq in let a = another in rw (j, s, a) refl

    own_count : has_wrong_own_count o.name o.seen ≡ false
    own_count = let e = eq-eqb (count_of o.seen o.name.0 + 1) o.name.1 own in rw e refl

    all_closed : is_not_closed h o.seen ≡ false
    all_closed = false_from_ne_true (is_not_closed h o.seen) (λ t.
        let c = any_back (λ (a : Op). counts o.seen a.name && not (covers o.seen a.seen)) h t in
        let d = and_parts (counts o.seen c.0.name) (not (covers o.seen c.0.seen)) c.2 in
        let m = part0.within c.0 (Contains-from_In c.0 h c.1) in
        let e = covers_if o.seen c.0.seen (whole.vector c.0 m) (λ n f. whole.closed c.0 o n m there d.0 f) in
        true≢false (sym e ∙ not-true (covers o.seen c.0.seen) d.1))

    -- a creation finds room for an object
    room_for_creation : is_change_body o.body ≡ false → leb b.objects (length (objects front)) ≡ false
    room_for_creation f =
        let creates : Op → Bool = λ op. not (is_change_body op.body) in
        let inside = length_within (o ∷ objects front) (objects r)
        ((λ m. not_yet (In-filter_back creates o h m).0), Once-filter creates h (Once-from_HasNoRepeats h part0.part.once))
        (λ x m. elim m [
          | inl e ↦ subst (λ z. In z (objects r)) (sym e) (In-filter creates o H in_h (not_from_false (is_change_body o.body) f))
          | inr l ↦ (let c = In-filter_back creates x h l in In-filter creates x H (front_whole front (Operation o ∷ later) is x c.0) c.1)
        ]) in
        lt-leb b.objects (length (objects front)) (omega (arith, inside, w.objects))

    -- a change finds its object and its base, and room
    module _ (change : is_change_body o.body ≡ true) where
      abbrev object : Name
      object = object_of o

      on : is_change_on object o ≡ true
      on = and_from (is_change_body o.body) (is_on object o) change (same_name-refl object object refl)

      has : has_object h o ≡ true
      has =
          let test : Op → Bool = λ a. is_creation_of (object_of o) a && before a o in
          let c = any_back test H (founded.object o there change) in
          let d = and_parts (is_creation_of (object_of o) c.0) (before c.0 o) c.2 in
          let mine = whole.own c.0 (Contains-from_In c.0 H c.1) in
          let a = counted front o past c.0.name (omega (arith, mine)) d.1 in
          let same = whole.distinct a.0 c.0 (part0.within a.0 (Contains-from_In a.0 h a.1)) (Contains-from_In c.0 H c.1) a.2 in
          any_from test c.0 h (subst (λ z. In z h) same a.1) c.2

      same_base : base h o ≡ base H o
      same_base = base_before_adding o part0.part part1.part ∙ base_in_part part1 o (Contains-push h o)

      based : is_some (base h o) ≡ true
      based = ap is_some same_base ∙ founded.based o there change

      alive : holds_drop (members (base h o)) ≡ false
      alive = ap (λ g. holds_drop (members g)) same_base ∙ founded.alive o there change

      fits : Rattle.late_join.proofs.Within.Fits b H object
      fits = w.fits o in_h change

      changes_within : (x : Op) → In x (changes_on h object) → In x (changes_on H object)
      changes_within x m = let c = in_changes_on_back h object x m in in_changes_on H object x (front_whole front (Operation o ∷ later) is x c.0) c.1

      itself : In o (changes_on H object)
      itself = in_changes_on H object o in_h on

      room_for_change : leb b.changes (length (changes_on h object)) ≡ false
      room_for_change =
          let inside = length_within (o ∷ changes_on h object) (changes_on H object)
          ((λ m. not_yet (in_changes_on_back h object o m).0), Once-changes_on part0.part object)
          (λ x m. elim m [ inl e ↦ subst (λ z. In z (changes_on H object)) (sym e) itself | inr l ↦ changes_within x l ]) in
          let k = fits.changes in
          lt-leb b.changes (length (changes_on h object)) (omega (arith, inside, k))

      room_for_key : has_too_many_keys b (changes_on h object) o ≡ false
      room_for_key =
          let all = changes_on h object ++ o ∷ [] in
          let inside = keys_within all (changes_on H object) (λ x m. elim (In-append_cases x (changes_on h object) (o ∷ []) m) [
            | inl l ↦ changes_within x l
            | inr r ↦ elim r [ inl e ↦ subst (λ z. In z (changes_on H object)) (sym e) itself | inr z ↦ absurd z ]
          ]) in
          let k = fits.keys in
          and_right (is_put_body o.body) (ltb b.keys (length (keys_of all))) (le-ltb b.keys (length (keys_of all)) (omega (arith, inside, k)))

      room_for_version : has_too_many_versions b h o ≡ false
      room_for_version =
          let grow = group_count_in_part (h ++ o ∷ []) H object part1 founded in
          let k = fits.versions in
          le-ltb b.versions (length (groups (h ++ o ∷ []) object)) (omega (arith, grow, k))

      change_passes : first_that_applies (change_conditions b h o) ≡ None
      change_passes =
          let versions = (has_too_many_versions b h o, TooManyVersions) ∷ [] in
          let keys = (has_too_many_keys b (changes_on h object) o, TooManyKeys) ∷ versions in
          let changes = (leb b.changes (length (changes_on h object)), ObjectFull) ∷ keys in
          let gone : Condition = (holds_drop (members (base h o)), Gone) in
          let named = (is_none (base h o), NoSuchVersion) ∷ gone ∷ changes in
          passed (not (has_object h o), NoSuchObject) named (ap not has)
          ∙ passed (is_none (base h o), NoSuchVersion) (gone ∷ changes) (is_none_if (base h o) based)
          ∙ passed gone changes alive
          ∙ passed (leb b.changes (length (changes_on h object)), ObjectFull) keys room_for_change
          ∙ passed (has_too_many_keys b (changes_on h object) o, TooManyKeys) versions room_for_key
          ∙ passed (has_too_many_versions b h o, TooManyVersions) [] room_for_version

    passes : first_that_applies (cond (is_change_body o.body) (change_conditions b h o) (creation_conditions b front)) ≡ None
    passes = elim (cases_Bool (is_change_body o.body)) [
      | inl t ↦ ap (λ c. first_that_applies (cond c (change_conditions b h o) (creation_conditions b front))) t ∙ change_passes t
      | inr f ↦ ap (λ c. first_that_applies (cond c (change_conditions b h o) (creation_conditions b front))) f
          ∙ passed (leb b.objects (length (objects front)), TooManyObjects) [] (room_for_creation f)
    ]

    -- an operation may be taken
    take_operation : may_take b front (Operation o) ≡ true
    take_operation =
        let rest = cond (is_change_body o.body) (change_conditions b h o) (creation_conditions b front) in
        let close = (is_not_closed h o.seen, NotClosed) ∷ rest in
        let mine = (has_wrong_own_count o.name o.seen, OwnCount) ∷ close in
        taken_from b front (Operation o) (whole.vector o there) fresh not_early (
        passed (leb b.entries (length front), RecordFull) mine (lt-leb b.entries (length front) (place front (Operation o) later is))
        ∙ passed (has_wrong_own_count o.name o.seen, OwnCount) close own_count
        ∙ passed (is_not_closed h o.seen, NotClosed) rest all_closed
        ∙ passes
        )

  take_rest : (front later : List Entry) → front ++ later ≡ t → IsClosed (operations front) → EachAfter has_past front later → EachAfter (may_take b) front later
  take_rest front [] is k g = tt
  take_rest front (Join site ∷ later) is k g = (
    take_join front site later is,
    take_rest (front ++ Join site ∷ []) later (append_assoc front (Join site ∷ []) later ∙ is) (subst IsClosed (sym (operations-join front site)) k) g.1,
  )
  take_rest front (Next count ∷ later) is k g = (
    take_end front count later is,
    take_rest (front ++ Next count ∷ []) later (append_assoc front (Next count ∷ []) later ∙ is) (subst IsClosed (sym (operations-end front count)) k) g.1,
  )
  take_rest front (Operation o ∷ later) is k g = (
    take_operation front o later is k g.0,
    take_rest (front ++ Operation o ∷ []) later (append_assoc front (Operation o ∷ []) later ∙ is)
        (subst IsClosed (sym (operations-push front o)) (closed_push front o g.0 k)) g.1,
  )

-- each causal order of a legal record is a takeable list
pub taken_in_any_order : (b : LimitValues) (r t : List Entry) → IsLegal b r → IsCausalOrderOf r t → IsTakeable b t
taken_in_any_order b r t legal c = take_rest b r t legal c.same [] t refl (λ x n m low e. absurd m) c.ordered

-- and its operations are those of the record
pub same_operations : (b : LimitValues) (r t : List Entry) → IsLegal b r → IsCausalOrderOf r t → AreSame (operations t) (operations r)
same_operations b r t legal c =
    let i = (sound b t (taken_in_any_order b r t legal c)).numbered.history in
    let j = history_if_legal b r legal in
    let to = in_whole b r t legal c.same in
    let back = from_whole b r t legal c.same in
    record {
      one = record { part = i; whole = j; within = λ x m. Contains-from_In x (operations r) (to x (In-from_Contains x (operations t) m)) };
      other = record { part = j; whole = i; within = λ x m. Contains-from_In x (operations t) (back x (In-from_Contains x (operations r) m)) };
    }

-- so each object has the same versions
pub same_versions : (b : LimitValues) (r t : List Entry) (object : Name) → IsLegal b r → IsCausalOrderOf r t → versions (operations t) object ≡ versions (operations r) object
same_versions b r t object legal c = versions_same (operations t) (operations r) object (same_operations b r t legal c)

-- ---- what is shown

module _ (k h : List Op) (same : AreSame k h) (object : Name) where
  created_too : (c : Op) → creation_of k object ≡ Some c → creation_of h object ≡ Some c
  created_too c e =
      let f = find_is (is_creation_of object) c k e in
      let p = and_parts (not (is_change_body c.body)) (same_name c.name object) f.1 in
      let limits = full_limits in
      let is : IsOf h (object_with_changes limits h c) = record {
        created = not-true (is_change_body c.body) p.0;
        there = same.one.within c (Contains-from_In c k f.0);
        all = refl;
      } in
      ap (creation_of h) (sym (same_name-true c.name object p.1)) ∙ creation_there h (object_with_changes limits h c) is same.one.whole

-- the creation of an object is the same in whatever order the operations come
creation_same : (k h : List Op) → AreSame k h → (object : Name) → creation_of k object ≡ creation_of h object
creation_same k h same object = go (creation_of k object) (creation_of h object) refl refl
  where
    go : (x y : Option Op) → creation_of k object ≡ x → creation_of h object ≡ y → creation_of k object ≡ creation_of h object
    go None None e f = e ∙ sym f
    go (Some a) y e f = e ∙ sym (created_too k h same object a e)
    go None (Some c) e f = created_too h k (record { one = same.other; other = same.one }) object c f ∙ sym f

-- so what a room shows of an object is shown
pub same_shown : (b : LimitValues) (r t : List Entry) (object : Name) → IsLegal b r → IsCausalOrderOf r t → shown t object ≡ shown r object
same_shown b r t object legal c =
    ap (shown_by t object) (creation_same (operations t) (operations r) (same_operations b r t legal c) object) ∙ go (creation_of (operations r) object)
  where
    go : (q : Option Op) → shown_by t object q ≡ shown_by r object q
    go None = ap (λ n. No n NoSuchObject) (length_permutation r t c.same)
    go (Some op) = λ i. Versions (length_permutation r t c.same i) object (kind_of_body op.body) (same_versions b r t object legal c i)
