-- What it says of an entry that it is taken, and that the operations of a takeable list are a history in causal order.
use Rattle.std.proofs.Common.{◌≡◌, ◌+◌, ◌<◌, ◌≤◌, Bool, true, false, cond, not, List, [], ◌∷◌, ◌++◌, length, refl, sym, ap, ◌∙◌, subst, arith, inl, inr, Option, Some, None, eqb, leb, ◌&&◌, ◌||◌, append_assoc}
use Rattle.std.specs.Prelude.{Contains, is_none, is_some, option_map}
use Rattle.std.proofs.lemmas.Bool.{true≢false, cases_Bool, and_parts, and_from, not-false, not-true, not_from_false, false_from_ne_true, leb-true, leb-false, eqb-true, cases_eq, or_parts}
use Rattle.std.proofs.lemmas.List.{append-nil}
use Rattle.std.proofs.lemmas.List.Elements.{Contains-append_left, Contains-push}
use Rattle.base_types.specs.Names.{Name, same_name}
use Rattle.base_types.specs.Vectors.{count_of, is_vector}
use Rattle.rules.specs.declared.history.Op.{Op}
use Rattle.rules.specs.declared.history.Entry.{Entry}
use Rattle.rules.specs.declared.history.Entry.TheVariants.{Join, Next, Operation}
use Rattle.rules.specs.declared.refusal.Refusal.{Refusal}
use Rattle.rules.specs.declared.refusal.Refusal.TheVariants.{RecordFull, WrongSeq, OwnCount, Ahead, NotClosed, Renewed}
use Rattle.rules.specs.declared.limits.LimitValues.{LimitValues}
use Rattle.rules.specs.Bodies.{is_change_body}
use Rattle.rules.specs.Operations.{IsHistory, IsCausallyOrdered, operation}
use Rattle.rules.specs.Admission.{Condition, first_that_applies, names_counted, count_at_site}
use Rattle.rules.specs.Admission.{has_wrong_seq, has_wrong_own_count, is_ahead, is_not_closed}
use Rattle.rules.specs.steps.Histories.{causal_refusal}
use Rattle.rules.specs.Conflicts.{IsFounded}
use Rattle.rules.specs.Records.{has_ended, open_conditions, operations, refusal, creation_conditions, change_conditions, EachAfter}
use Rattle.rules.proofs.Lists.{In-from_Contains, any_back, any_none, find_none}
use Rattle.rules.proofs.Counted.{In-names_counted_back, same_name-refl}
use Rattle.rules.proofs.Conditions.{none_of_both, not_first}
use Rattle.rules.proofs.Histories.{IsNumbered, numbered_push, numbered_empty, count_at_site_push}
use Rattle.rules.proofs.Founded.{HasGround, founded_push, ground_if}
use Rattle.rules.proofs.Records.{operations-end, operations-join, operations-push}
use Rattle.shape.proofs.Next.{next_ordered}
use Rattle.shape.proofs.Refusals.{passed}
use Rattle.late_join.specs.declared.fault.TakeFault.TheVariants.{Repeat, Early, Refused}
use Rattle.late_join.specs.Taking.{has_joined, is_repeat, is_early, lacks_another, arriving_conditions, taking_conditions, take_fault, is_entry, may_take, IsTakeable}

-- ---- one entry

none_of_three : (r e : Bool) (q : Option Refusal) → is_none (cond r (Some Repeat) (cond e (Some Early) (option_map Refused q))) ≡ true → (r ≡ false) × (e ≡ false) × (q ≡ None)
none_of_three true e q h = absurd cc
none_of_three false true q h = absurd cc
none_of_three false false None h = (refl, refl, refl)
none_of_three false false (Some x) h = absurd cc

pub parts_of_taken : (b : LimitValues) (t : List Entry) (e : Entry) → may_take b t e ≡ true
    → (is_entry e ≡ true) × (is_repeat t e ≡ false) × (is_early t e ≡ false) × (first_that_applies (taking_conditions b t e) ≡ None)
unfolding take_fault
parts_of_taken b t e a =
    let p = and_parts (is_entry e) (is_none (take_fault b t e)) a in
    let q = none_of_three (is_repeat t e) (is_early t e) (first_that_applies (taking_conditions b t e)) p.1 in
    (p.0, q.0, q.1, q.2)

pub taken_from : (b : LimitValues) (t : List Entry) (e : Entry) → is_entry e ≡ true → is_repeat t e ≡ false → is_early t e ≡ false → first_that_applies (taking_conditions b t e) ≡ None → may_take b t e ≡ true
unfolding take_fault
taken_from b t e v r f n = and_from (is_entry e) (is_none (take_fault b t e)) v (rw (r, f, n) refl)

-- what it says of an operation that it is taken
pub record Taken (b : LimitValues) (t : List Entry) (o : Op) : Type 0 where
  pub vector : is_vector o.seen ≡ true
  pub joined : has_joined t o.name.0 ≡ true
  pub seq : has_wrong_seq (operations t) o.name ≡ false
  pub another : lacks_another (operations t) o ≡ false
  pub room : length t < b.entries
  pub own : has_wrong_own_count o.name o.seen ≡ false
  pub closed : is_not_closed (operations t) o.seen ≡ false
  pub rest : first_that_applies (cond (is_change_body o.body) (change_conditions b (operations t) o) (creation_conditions b t)) ≡ None

pub taken_if : (b : LimitValues) (t : List Entry) (o : Op) → may_take b t (Operation o) ≡ true → Taken b t o
taken_if b t o a =
    let p = parts_of_taken b t (Operation o) a in
    let e = or_parts (not (has_joined t o.name.0) || has_wrong_seq (operations t) o.name) (lacks_another (operations t) o) p.2 in
    let f = or_parts (not (has_joined t o.name.0)) (has_wrong_seq (operations t) o.name) e.0 in
    let q = none_of_both (arriving_conditions b t o) (cond (is_change_body o.body) (change_conditions b (operations t) o) (creation_conditions b t)) p.3 in
    let first = not_first (leb b.entries (length t), RecordFull) ((has_wrong_own_count o.name o.seen, OwnCount) ∷ (is_not_closed (operations t) o.seen, NotClosed) ∷ []) q.0 in
    let second = not_first (has_wrong_own_count o.name o.seen, OwnCount) ((is_not_closed (operations t) o.seen, NotClosed) ∷ []) first.1 in
    let third = not_first (is_not_closed (operations t) o.seen, NotClosed) [] second.1 in
    record {
      vector = p.0;
      joined = not-false (has_joined t o.name.0) f.0;
      seq = f.1;
      another = e.1;
      room = leb-false b.entries (length t) first.0;
      own = second.0;
      closed = third.0;
      rest = q.1;
    }

-- ---- histories

-- an operation that is there is found by its name
pub operation_there : (h : List Op) (o : Op) → Contains h o → is_some (operation h o.name) ≡ true
operation_there h o m = go (operation h o.name) refl
  where
    go : (r : Option Op) → operation h o.name ≡ r → is_some (operation h o.name) ≡ true
    go None e = absurd (true≢false (sym (same_name-refl o.name o.name refl) ∙ find_none (λ x. same_name x.name o.name) o h e (In-from_Contains o h m)))
    go (Some a) e = ap is_some e

-- of each site the operations numbered from 1 to its count are there
abbrev pub IsWhole : List Op → Type 0
IsWhole h = (n : Name) → 1 ≤ n.1 → n.1 ≤ count_at_site h n.0 → (a : Op) × Contains h a × (a.name ≡ n)

module _ (h : List Op) (o : Op) (i : IsHistory h) (whole : IsWhole h) (vector : is_vector o.seen ≡ true) (seq : has_wrong_seq h o.name ≡ false) (own : has_wrong_own_count o.name o.seen ≡ false) (another : lacks_another h o ≡ false) where
  -- where nothing of another site is missing, and the site's own count is right, nothing is missing
  pub not_ahead : is_ahead h o.seen ≡ false
  not_ahead = false_from_ne_true (is_ahead h o.seen) (λ t.
      let c = any_back (λ n. not (is_some (operation h n))) (names_counted o.seen) t in
      let n : Name = c.0 in
      elim (cases_Bool (eqb n.0 o.name.0)) [
        | inl e ↦
            (let same : n.0 ≡ o.name.0 = eqb-true n.0 o.name.0 e in
            let d = In-names_counted_back o.seen n vector c.1 in
            let low = leb-true n.1 (count_of o.seen n.0) d.counted in
            let k : count_of o.seen n.0 ≡ count_of o.seen o.name.0 = ap (count_of o.seen) same in
            let l : count_at_site h n.0 ≡ count_at_site h o.name.0 = ap (count_at_site h) same in
            let next = eqb-true o.name.1 (count_at_site h o.name.0 + 1) (not-false _ seq) in
            let mine = eqb-true (count_of o.seen o.name.0 + 1) o.name.1 (not-false _ own) in
            let a = whole n d.low (omega (arith, low, k, l, next, mine)) in
            let there : is_some (operation h n) ≡ true = subst (λ m. is_some (operation h m) ≡ true) a.2 (operation_there h a.0 a.1) in
            true≢false (sym there ∙ not-true _ c.2))
        | inr e ↦
            (let f = any_none (λ n. not (eqb n.0 o.name.0) && not (is_some (operation h n))) n (names_counted o.seen) another c.1 in
            true≢false (sym (and_from (not (eqb n.0 o.name.0)) (not (is_some (operation h n))) (not_from_false _ e) c.2) ∙ f))
      ])

-- so none of the causal conditions applies
pub causal_if : (b : LimitValues) (t : List Entry) (o : Op) → IsHistory (operations t) → IsWhole (operations t) → Taken b t o → causal_refusal (operations t) o.name o.seen ≡ None
unfolding causal_refusal
causal_if b t o i whole k =
    let a = not_ahead (operations t) o i whole k.vector k.seq k.own k.another in
    let s = k.seq in let w = k.own in let c = k.closed in
    rw (s, w, a, c) refl

-- a change that is taken has its object and its base
ground_if_taken : (b : LimitValues) (t : List Entry) (op : Op) → Taken b t op → is_change_body op.body ≡ true → HasGround (operations t) op
ground_if_taken b t op k e =
    let rest = k.rest in
    let none : first_that_applies (change_conditions b (operations t) op) ≡ None = rw e at rest in
    ground_if b (operations t) op none

-- a history in causal order, whose sites number their operations without a gap, and whose changes have their objects and bases
pub record IsSound (h : List Op) : Type 0 where
  pub numbered : IsNumbered h
  pub ordered : IsCausallyOrdered h
  pub founded : IsFounded h
  pub whole : IsWhole h

whole_push : (h : List Op) (o : Op) → IsWhole h → has_wrong_seq h o.name ≡ false → IsWhole (h ++ o ∷ [])
whole_push h o w s n low high =
    let next = eqb-true o.name.1 (count_at_site h o.name.0 + 1) (not-false _ s) in
    let count = count_at_site_push h o n.0 in
    elim (cases_Bool (eqb o.name.0 n.0)) [
      | inl t ↦
          (let same : o.name.0 ≡ n.0 = eqb-true o.name.0 n.0 t in
          let more : count_at_site (h ++ o ∷ []) n.0 ≡ count_at_site h n.0 + 1 = rw t at count in
          let k : count_at_site h o.name.0 ≡ count_at_site h n.0 = ap (count_at_site h) same in
          elim (cases_eq n.1 o.name.1) [
            | inl e ↦ (o, Contains-push h o, λ i. (same i, sym e i))
            | inr d ↦ (let a = w n low (omega (arith, high, more, next, k)) in (a.0, Contains-append_left h (o ∷ []) a.0 a.1, a.2))
          ])
      | inr f ↦
          (let stays : count_at_site (h ++ o ∷ []) n.0 ≡ count_at_site h n.0 + 0 = rw f at count in
          let a = w n low (omega (arith, high, stays)) in (a.0, Contains-append_left h (o ∷ []) a.0 a.1, a.2))
    ]

sound_push : (b : LimitValues) (t : List Entry) (o : Op) → IsSound (operations t) → Taken b t o → IsSound (operations t ++ o ∷ [])
sound_push b t o s k =
    let h = operations t in
    let none = causal_if b t o s.numbered.history s.whole k in
    let n = numbered_push h o s.numbered none k.vector in
    record {
      numbered = n;
      ordered = next_ordered h o s.numbered.history s.ordered none k.vector;
      founded = founded_push h o s.numbered.history s.founded n.history (ground_if_taken b t o k);
      whole = whole_push h o s.whole k.seq;
    }

sound_after : (b : LimitValues) (t rest : List Entry) → IsSound (operations t) → EachAfter (may_take b) t rest → IsSound (operations (t ++ rest))
sound_after b t [] s g = subst (λ x. IsSound (operations x)) (sym (append-nil t)) s
sound_after b t (Join site ∷ rest) s g =
    subst (λ x. IsSound (operations x)) (append_assoc t (Join site ∷ []) rest)
    (sound_after b (t ++ Join site ∷ []) rest (subst IsSound (sym (operations-join t site)) s) g.1)
sound_after b t (Next count ∷ rest) s g =
    subst (λ x. IsSound (operations x)) (append_assoc t (Next count ∷ []) rest)
    (sound_after b (t ++ Next count ∷ []) rest (subst IsSound (sym (operations-end t count)) s) g.1)
sound_after b t (Operation o ∷ rest) s g =
    subst (λ x. IsSound (operations x)) (append_assoc t (Operation o ∷ []) rest)
    (sound_after b (t ++ Operation o ∷ []) rest (subst IsSound (sym (operations-push t o)) (sound_push b t o s (taken_if b t o g.0))) g.1)

sound_empty : IsSound []
sound_empty = record {
  numbered = numbered_empty;
  ordered = tt;
  founded = record {
    object = λ x m t. absurd (In-from_Contains x [] m);
    based = λ x m t. absurd (In-from_Contains x [] m);
    alive = λ x m t. absurd (In-from_Contains x [] m);
  };
  whole = λ n low high. absurd (omega (arith, low, high));
}

-- the operations of a takeable list are sound
pub sound : (b : LimitValues) (t : List Entry) → IsTakeable b t → IsSound (operations t)
sound b t g = sound_after b [] t sound_empty g

-- ---- the room's conditions

-- after a takeable list an operation that is neither a repeat nor early is refused where a room with these entries refuses it
pub refused_as_room : (b : LimitValues) (t : List Entry) (o : Op) → IsTakeable b t → is_vector o.seen ≡ true → has_ended t ≡ false → is_repeat t (Operation o) ≡ false → is_early t (Operation o) ≡ false
    → first_that_applies (taking_conditions b t (Operation o)) ≡ refusal b t (Operation o)
unfolding refusal
refused_as_room b t o g vector going new early =
    let h = operations t in
    let s = sound b t g in
    let e = or_parts (not (has_joined t o.name.0) || has_wrong_seq h o.name) (lacks_another h o) early in
    let seq = (or_parts (not (has_joined t o.name.0)) (has_wrong_seq h o.name) e.0).1 in
    let rest = cond (is_change_body o.body) (change_conditions b h o) (creation_conditions b t) in
    go (leb b.entries (length t)) (has_wrong_seq h o.name) (has_wrong_own_count o.name o.seen) (is_ahead h o.seen) (is_not_closed h o.seen) rest seq
    (λ own. not_ahead h o s.numbered.history s.whole vector seq own e.1)
    ∙ sym (passed (has_ended t, Renewed) (open_conditions b t (Operation o)) going)
  where
    go : (full wrong own ahead loose : Bool) (rest : List Condition) → wrong ≡ false → (own ≡ false → ahead ≡ false)
        → first_that_applies ((full, RecordFull) ∷ (own, OwnCount) ∷ (loose, NotClosed) ∷ rest)
        ≡ first_that_applies ((full, RecordFull) ∷ (wrong, WrongSeq) ∷ (own, OwnCount) ∷ (ahead, Ahead) ∷ (loose, NotClosed) ∷ rest)
    go true wrong own ahead loose rest w f = refl
    go false true own ahead loose rest w f = cc
    go false false true ahead loose rest w f = refl
    go false false false true loose rest w f = absurd (true≢false (f refl))
    go false false false false loose rest w f = refl
