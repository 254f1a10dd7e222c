-- A legal record is within its limits, and no entry stands twice in it.
use Rattle.std.proofs.Common.{◌≡◌, ℕ, ◌+◌, ◌<◌, ◌≤◌, Bool, true, false, cond, not, List, [], ◌∷◌, ◌++◌, length, refl, sym, ap, ◌∙◌, subst, arith, inl, inr, None, leb, ltb, ◌&&◌, append_assoc}
use Rattle.std.specs.Prelude.{filter, is_none}
use Rattle.std.proofs.lemmas.Bool.{true≢false, cases_Bool, and_parts, leb-false, eqb-true, cases_lt, lt-ltb}
use Rattle.std.proofs.lemmas.List.{append-nil, length_push}
use Rattle.base_types.specs.Names.{Name}
use Rattle.base_types.specs.Vectors.{is_vector}
use Rattle.rules.specs.declared.history.Op.{Op}
use Rattle.rules.specs.declared.history.Entry.{Entry}
use Rattle.rules.specs.declared.history.Entry.TheVariants.{Join, Next, Operation}
use Rattle.rules.specs.declared.refusal.Refusal.TheVariants.{NoSuchObject, NoSuchVersion, Gone, ObjectFull, TooManyKeys, TooManyVersions}
use Rattle.rules.specs.declared.limits.LimitValues.{LimitValues}
use Rattle.rules.specs.declared.history.Body.{Body}
use Rattle.rules.specs.declared.history.Body.TheVariants.{New, Put, DropVersion}
use Rattle.rules.specs.Bodies.{is_change_body, is_put_body, keys_of_body}
use Rattle.rules.specs.Lists.{sort_by}
use Rattle.rules.specs.Operations.{by_name, holds_drop, is_on, is_change_on, object_of, changes_on}
use Rattle.rules.specs.Admission.{Condition, first_that_applies}
use Rattle.rules.specs.Conflicts.{base, has_object, members}
use Rattle.rules.specs.Versions.{groups, keys_of}
use Rattle.rules.specs.steps.Keys.{new_keys}
use Rattle.rules.specs.Records.{has_ended, is_end, operation_in, operations, objects, sites, admits, is_placed, refusal, order_conditions, change_conditions, creation_conditions, has_too_many_keys, has_too_many_versions, IsLegal, EachAfter}
use Rattle.rules.proofs.Lists.{In, Contains-from_In, In-append_cases, In-append_left, In-append_right, In-filter_map, any_from}
use Rattle.rules.proofs.Once.{Once, Once-append}
use Rattle.rules.proofs.Reordered.{SameMembers}
use Rattle.rules.proofs.Changes.{in_changes_on, in_changes_on_back}
use Rattle.rules.proofs.Keys.{keys_as_many, keys_with as keys_with_change}
use Rattle.rules.proofs.Versions.{sort-length}
use Rattle.rules.proofs.Objects.{groups_kept}
use Rattle.rules.proofs.Records.{filter-push, operations-end, operations-join, operations-push, sites-end, sites-join, sites-operation, objects-end, objects-join, objects-creation, legal_push}
use Rattle.rules.proofs.Conditions.{none_of_both, not_first, none_applies, open_if_admitted, room_for_end, room_for_join, room_for_operation, room_for_object}
use Rattle.rules.proofs.Founded.{history_if_legal}
use Rattle.rules.proofs.Histories.{follows_if}
use Rattle.shape.proofs.Next.{numbered_if}

-- what is no put gives no key
no_keys : (body : Body) → is_put_body body ≡ false → keys_of_body body ≡ []
no_keys (New kind attrs) f = refl
no_keys (Put object version pairs) f = absurd (true≢false f)
no_keys (DropVersion object version) f = refl

at_most : (n limit : ℕ) → ltb limit n ≡ false → n ≤ limit
at_most n limit f = elim (cases_lt limit n) [ inl l ↦ absurd (true≢false (sym (lt-ltb limit n l) ∙ f)) | inr g ↦ g ]

-- ---- one object, and one operation more

module _ (h : List Op) (o : Op) (object : Name) where
  abbrev test : Op → Bool
  test = is_change_on object

  module _ (beside : is_change_on object o ≡ false) where
    same : filter test (h ++ o ∷ []) ≡ filter test h
    same = filter-push test h o ∙ ap (λ b. filter test h ++ cond b (o ∷ []) []) beside ∙ append-nil (filter test h)

    pub changes_beside : changes_on (h ++ o ∷ []) object ≡ changes_on h object
    unfolding changes_on
    changes_beside = ap (sort_by by_name) same

    pub groups_beside : groups (h ++ o ∷ []) object ≡ groups h object
    groups_beside = sym (groups_kept object test (λ x e. e) (h ++ o ∷ [])) ∙ ap (λ l. groups l object) same ∙ groups_kept object test (λ x e. e) h

  module _ (on : is_change_on object o ≡ true) where
    more : filter test (h ++ o ∷ []) ≡ filter test h ++ o ∷ []
    more = filter-push test h o ∙ ap (λ b. filter test h ++ cond b (o ∷ []) []) on

    pub changes_with : length (changes_on (h ++ o ∷ []) object) ≡ length (changes_on h object) + 1
    unfolding changes_on
    changes_with =
        let a = sort-length by_name (filter test (h ++ o ∷ [])) in
        let c = sort-length by_name (filter test h) in
        let d = ap length more ∙ length_push (filter test h) o in
        omega (arith, a, c, d)

    pub changes_with_same : SameMembers (changes_on (h ++ o ∷ []) object) (changes_on h object ++ o ∷ [])
    changes_with_same = record {
      to = λ x m.
          let c = in_changes_on_back (h ++ o ∷ []) object x m in
          elim (In-append_cases x h (o ∷ []) c.0) [
            | inl l ↦ In-append_left x (changes_on h object) (o ∷ []) (in_changes_on h object x l c.1)
            | inr r ↦ In-append_right x (changes_on h object) (o ∷ []) r
          ];
      back = λ x m. elim (In-append_cases x (changes_on h object) (o ∷ []) m) [
        | inl l ↦ (let c = in_changes_on_back h object x l in in_changes_on (h ++ o ∷ []) object x (In-append_left x h (o ∷ []) c.0) c.1)
        | inr r ↦ elim r [
          | inl e ↦ in_changes_on (h ++ o ∷ []) object x (In-append_right x h (o ∷ []) (inl e)) (ap test e ∙ on)
          | inr z ↦ absurd z
        ]
      ];
    }

    -- where the change's keys are within the limit, so are the keys with it
    pub keys_with : (b : LimitValues) → has_too_many_keys b (changes_on h object) o ≡ false → length (keys_of (changes_on h object)) ≤ b.keys → length (keys_of (changes_on (h ++ o ∷ []) object)) ≤ b.keys
    keys_with b few within =
        let all = changes_on h object ++ o ∷ [] in
        let same = keys_as_many (changes_on (h ++ o ∷ []) object) all changes_with_same in
        elim (cases_Bool (is_put_body o.body)) [
          | inl put ↦
              (let low : ltb b.keys (length (keys_of all)) ≡ false = rw put at few in
              let most = at_most (length (keys_of all)) b.keys low in
              omega (arith, same, most))
          | inr other ↦
              (let new : length (new_keys (changes_on h object) o) ≡ 0 = rw (no_keys o.body other) refl in
              let more = keys_with_change (changes_on h object) o in
              omega (arith, same, more, new, within))
        ]

-- ---- what stays within the limits

-- an object that has a change
pub record Fits (b : LimitValues) (h : List Op) (object : Name) : Type 0 where
  pub changes : length (changes_on h object) ≤ b.changes
  pub keys : length (keys_of (changes_on h object)) ≤ b.keys
  pub versions : length (groups h object) ≤ b.versions

pub record IsWithin (b : LimitValues) (r : List Entry) : Type 0 where
  pub length : length r ≤ b.entries
  pub joins : (site : ℕ) → In (Join site) r → (1 ≤ site) × (site ≤ sites r)
  pub few : sites r ≤ b.joins
  pub objects : Rattle.std.proofs.Common.length (objects r) ≤ b.objects
  pub once : Once r
  pub ends : (c d : ℕ) → In (Next c) r → In (Next d) r → c ≡ d
  pub fits : (o : Op) → In o (operations r) → is_change_body o.body ≡ true → Fits b (operations r) (object_of o)

-- what is asked of a change that is admitted
record Room (b : LimitValues) (h : List Op) (o : Op) : Type 0 where
  changes : length (changes_on h (object_of o)) < b.changes
  keys : has_too_many_keys b (changes_on h (object_of o)) o ≡ false
  versions : length (groups (h ++ o ∷ []) (object_of o)) ≤ b.versions

room_if : (b : LimitValues) (r : List Entry) (o : Op) → admits b r (Operation o) ≡ true → is_change_body o.body ≡ true → Room b (operations r) o
room_if b r o a e =
    let h = operations r in
    let x = none_of_both (order_conditions b r o) (cond (is_change_body o.body) (change_conditions b h o) (creation_conditions b r)) (none_applies b r (Operation o) a) in
    let y : first_that_applies (change_conditions b h o) ≡ None = rw e at x.1 in
    let changes = changes_on h (object_of o) in
    let d = (has_too_many_versions b h o, TooManyVersions) ∷ [] in
    let c = (has_too_many_keys b changes o, TooManyKeys) ∷ d in
    let f = (leb b.changes (length changes), ObjectFull) ∷ c in
    let gone : Condition = (holds_drop (members (base h o)), Gone) in
    let first = not_first (not (has_object h o), NoSuchObject) ((is_none (base h o), NoSuchVersion) ∷ gone ∷ f) y in
    let second = not_first (is_none (base h o), NoSuchVersion) (gone ∷ f) first.1 in
    let alive = not_first gone f second.1 in
    let third = not_first (leb b.changes (length changes), ObjectFull) c alive.1 in
    let fourth = not_first (has_too_many_keys b changes o, TooManyKeys) d third.1 in
    let fifth = not_first (has_too_many_versions b h o, TooManyVersions) [] fourth.1 in
    record { changes = leb-false b.changes (length changes) third.0; keys = fourth.0; versions = at_most (length (groups (h ++ o ∷ []) (object_of o))) b.versions fifth.0 }

-- a name that is admitted is new
new_name : (b : LimitValues) (r : List Entry) (o : Op) → IsLegal b r → admits b r (Operation o) ≡ true → In o (operations r) → ⊥
new_name b r o legal a m =
    let h = operations r in
    let v = (and_parts (leb 1 o.name.0 && leb o.name.0 (sites r)) (is_vector o.seen) (and_parts (is_placed r (Operation o)) (is_none (refusal b r (Operation o))) a).0).1 in
    let next = (follows_if h o (room_for_operation b r o a).1 v).seq in
    let last = (numbered_if (history_if_legal b r legal)).numbered o (Contains-from_In o h m) in
    omega (arith, next, last)

-- what stands in a list with one item more, and isn't that item, stands in the list
in_before : {X : Type 0} (x y : X) (xs : List X) → In x (xs ++ y ∷ []) → (x ≡ y → ⊥) → In x xs
in_before x y xs m other = elim (In-append_cases x xs (y ∷ []) m) [ inl l ↦ l | inr q ↦ elim q [ inl e ↦ absurd (other e) | inr z ↦ absurd z ] ]

-- a record in which an end stands has ended
ended_if : (r : List Entry) (c : ℕ) → In (Next c) r → has_ended r ≡ true
ended_if r c m = any_from is_end (Next c) r m refl

module _ (b : LimitValues) (r : List Entry) (legal : IsLegal b r) (w : IsWithin b r) where
  ends_before : (e : Entry) → is_end e ≡ false → (c d : ℕ) → In (Next c) (r ++ e ∷ []) → In (Next d) (r ++ e ∷ []) → c ≡ d
  ends_before e goes_on c d m n = w.ends c d (in_before (Next c) e r m (other c)) (in_before (Next d) e r n (other d))
    where
      other : (k : ℕ) → Next k ≡ e → ⊥
      other k is = true≢false (ap is_end is ∙ goes_on)

  module _ (count : ℕ) (a : admits b r (Next count) ≡ true) where
    going : has_ended r ≡ false
    going = (open_if_admitted b r (Next count) a).0

    the_end : (c : ℕ) → In (Next c) (r ++ Next count ∷ []) → c ≡ count
    the_end c m = elim (In-append_cases (Next c) r (Next count ∷ []) m) [
      | inl l ↦ absurd (true≢false (sym (ended_if r c l) ∙ going))
      | inr q ↦ elim q [ inl e ↦ cc | inr z ↦ absurd z ]
    ]

    within_end : IsWithin b (r ++ Next count ∷ [])
    within_end = let same = sites-end r count in record {
      length = (let e = length_push r (Next count) in let room = room_for_end b r count a in omega (arith, e, room));
      joins = λ s m. (let c = w.joins s (in_before (Join s) (Next count) r m (λ e. cc)) in (c.0, omega (arith, c.1, same)));
      few = omega (arith, same, w.few);
      objects = (let e = ap Rattle.std.proofs.Common.length (objects-end r count) in omega (arith, e, w.objects));
      once = Once-append r (Next count ∷ []) w.once ((λ m. m), tt) (λ x m n. elim n [
        | inl e ↦ true≢false (sym (ended_if r count (subst (λ z. In z r) e m)) ∙ going)
        | inr z ↦ z
      ]);
      ends = λ c d m n. the_end c m ∙ sym (the_end d n);
      fits = λ o m t. subst (λ h. Fits b h (object_of o)) (sym (operations-end r count)) (w.fits o (subst (λ h. In o h) (operations-end r count) m) t);
    }

  within_join : (site : ℕ) → admits b r (Join site) ≡ true → IsWithin b (r ++ Join site ∷ [])
  within_join site a =
      let room = room_for_join b r site a in
      let next = eqb-true site (sites r + 1) (and_parts (is_placed r (Join site)) (is_none (refusal b r (Join site))) a).0 in
      let more = sites-join r site in
      record {
        length = (let e = length_push r (Join site) in omega (arith, e, room.1));
        joins = λ s m. elim (In-append_cases (Join s) r (Join site ∷ []) m) [
          | inl l ↦ (let c = w.joins s l in (c.0, omega (arith, c.1, more)))
          | inr q ↦ elim q [
            | inl e ↦ (let same : s ≡ site = cc in (omega (arith, same, next), omega (arith, same, next, more)))
            | inr z ↦ absurd z
          ]
        ];
        few = omega (arith, more, room.0);
        objects = (let e = ap Rattle.std.proofs.Common.length (objects-join r site) in omega (arith, e, w.objects));
        once = Once-append r (Join site ∷ []) w.once ((λ m. m), tt) (λ x m n. elim n [
          | inl e ↦ (let c = w.joins site (subst (λ z. In z r) e m) in omega (arith, c.1, next))
          | inr z ↦ z
        ]);
        ends = ends_before (Join site) refl;
        fits = λ o m t. subst (λ h. Fits b h (object_of o)) (sym (operations-join r site)) (w.fits o (subst (λ h. In o h) (operations-join r site) m) t);
      }

  module _ (p : Op) (a : admits b r (Operation p) ≡ true) where
    abbrev h : List Op
    h = operations r

    fits_on : (object : Name) → object_of p ≡ object → is_change_on object p ≡ true → length (keys_of (changes_on h object)) ≤ b.keys → Fits b (h ++ p ∷ []) object
    fits_on object e on keys =
        let room = subst (λ n. (length (changes_on h n) < b.changes) × (has_too_many_keys b (changes_on h n) p ≡ false) × (length (groups (h ++ p ∷ []) n) ≤ b.versions)) e
        (let k = room_if b r p a (and_parts (is_change_body p.body) (is_on object p) on).0 in (k.changes, k.keys, k.versions)) in
        record {
          changes = (let n = changes_with h p object on in omega (arith, n, room.0));
          keys = keys_with h p object on b room.1 keys;
          versions = room.2;
        }

    fits_beside : (object : Name) → is_change_on object p ≡ false → Fits b h object → Fits b (h ++ p ∷ []) object
    fits_beside object f k = record {
      changes = (let e = ap length (changes_beside h p object f) in omega (arith, e, k.changes));
      keys = (let e = ap (λ s. length (keys_of s)) (changes_beside h p object f) in omega (arith, e, k.keys));
      versions = (let e = ap length (groups_beside h p object f) in omega (arith, e, k.versions));
    }

    -- the keys of an object, with a change or without, are within the limit
    keys_now : (object : Name) → length (keys_of (changes_on h object)) ≤ b.keys
    keys_now object = go (changes_on h object) refl
      where
        go : (s : List Op) → changes_on h object ≡ s → length (keys_of s) ≤ b.keys
        go [] e = omega arith
        go (x ∷ s) e =
            let c = in_changes_on_back h object x (subst (λ l. In x l) (sym e) (inl refl)) in
            let d = and_parts (is_change_body x.body) (is_on object x) c.1 in
            let k = w.fits x c.0 d.0 in
            let named : object_of x ≡ object = Rattle.rules.proofs.Counted.same_name-true (object_of x) object d.1 in
            subst (λ l. length (keys_of l) ≤ b.keys) e (subst (λ n. length (keys_of (changes_on h n)) ≤ b.keys) named k.keys)

    fits_with : (o : Op) → In o (h ++ p ∷ []) → is_change_body o.body ≡ true → Fits b (h ++ p ∷ []) (object_of o)
    fits_with o m t = elim (cases_Bool (is_change_on (object_of o) p)) [
      | inl on ↦
          (let named : object_of p ≡ object_of o = Rattle.rules.proofs.Counted.same_name-true (object_of p) (object_of o) (and_parts (is_change_body p.body) (is_on (object_of o) p) on).1 in
          fits_on (object_of o) named on (keys_now (object_of o)))
      | inr f ↦ elim (In-append_cases o h (p ∷ []) m) [
        | inl l ↦ fits_beside (object_of o) f (w.fits o l t)
        | inr q ↦ elim q [
          | inl e ↦
              (let mine : is_change_on (object_of p) p ≡ true = Rattle.std.proofs.lemmas.Bool.and_from (is_change_body p.body) (is_on (object_of p) p) (sym (ap (λ (z : Op). is_change_body z.body) e) ∙ t) (Rattle.rules.proofs.Counted.same_name-refl (object_of p) (object_of p) refl) in
              absurd (true≢false (sym mine ∙ sym (ap (λ (z : Op). is_change_on (object_of z) p) e) ∙ f)))
          | inr z ↦ absurd z
        ]
      ]
    ]

    creates : Op → Bool
    creates op = not (is_change_body op.body)

    objects_with : Rattle.std.proofs.Common.length (objects (r ++ Operation p ∷ [])) ≤ b.objects
    objects_with = elim (cases_Bool (is_change_body p.body)) [
      | inl t ↦
          (let e : objects (r ++ Operation p ∷ []) ≡ objects r =
          ap (λ (k : List Op). filter (λ op. not (is_change_body op.body)) k) (operations-push r p)
          ∙ filter-push (λ (op : Op). not (is_change_body op.body)) h p
          ∙ ap (λ c. objects r ++ cond (not c) (p ∷ []) []) t
          ∙ append-nil (objects r) in
          let n = ap length e in
          omega (arith, n, w.objects))
      | inr f ↦
          (let n : length (objects (r ++ Operation p ∷ [])) ≡ length (objects r) + 1 = ap length (objects-creation r p f) ∙ length_push (objects r) p in
          omega (arith, n, room_for_object b r p a f))
    ]

    within_operation : IsWithin b (r ++ Operation p ∷ [])
    within_operation = record {
      length = (let e = length_push r (Operation p) in let room = room_for_operation b r p a in omega (arith, e, room.0));
      joins = λ s m. elim (In-append_cases (Join s) r (Operation p ∷ []) m) [
        | inl l ↦ (let c = w.joins s l in let e = sites-operation r p in (c.0, omega (arith, c.1, e)))
        | inr q ↦ elim q [ inl e ↦ cc | inr z ↦ absurd z ]
      ];
      few = (let e = sites-operation r p in omega (arith, e, w.few));
      objects = objects_with;
      once = Once-append r (Operation p ∷ []) w.once ((λ m. m), tt) (λ x m n. elim n [
        | inl e ↦ new_name b r p legal a (In-filter_map operation_in (Operation p) p r (subst (λ z. In z r) e m) refl)
        | inr z ↦ z
      ]);
      ends = ends_before (Operation p) refl;
      fits = λ o m t. subst (λ k. Fits b k (object_of o)) (sym (operations-push r p)) (fits_with o (subst (λ k. In o k) (operations-push r p) m) t);
    }

within_after : (b : LimitValues) (r rest : List Entry) → IsLegal b r → IsWithin b r → EachAfter (admits b) r rest → IsWithin b (r ++ rest)
within_after b r [] l w g = subst (IsWithin b) (sym (append-nil r)) w
within_after b r (Join site ∷ rest) l w g =
    subst (IsWithin b) (append_assoc r (Join site ∷ []) rest)
    (within_after b (r ++ Join site ∷ []) rest (legal_push b r (Join site) l g.0) (within_join b r l w site g.0) g.1)
within_after b r (Next count ∷ rest) l w g =
    subst (IsWithin b) (append_assoc r (Next count ∷ []) rest)
    (within_after b (r ++ Next count ∷ []) rest (legal_push b r (Next count) l g.0) (within_end b r l w count g.0) g.1)
within_after b r (Operation o ∷ rest) l w g =
    subst (IsWithin b) (append_assoc r (Operation o ∷ []) rest)
    (within_after b (r ++ Operation o ∷ []) rest (legal_push b r (Operation o) l g.0) (within_operation b r l w o g.0) g.1)

within_empty : (b : LimitValues) → IsWithin b []
within_empty b = record {
  length = omega arith;
  joins = λ s m. absurd m;
  few = omega arith;
  objects = omega arith;
  once = tt;
  ends = λ c d m n. absurd m;
  fits = λ o m t. absurd m;
}

pub within : (b : LimitValues) (r : List Entry) → IsLegal b r → IsWithin b r
within b r g = within_after b [] r tt (within_empty b) g
