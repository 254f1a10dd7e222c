-- Lists of conditions, and what it says of a record that an entry isn't refused.
use Rattle.std.proofs.Common.{◌≡◌, ℕ, ◌+◌, ◌<◌, ◌≤◌, Bool, true, false, List, [], ◌∷◌, ◌++◌, length, refl, sym, ◌∙◌, inl, inr, arith, Some, None, ◌&&◌, leb, eqb, cond}
use Rattle.std.specs.Prelude.{Option, is_none, is_some, find, option_map}
use Rattle.std.proofs.lemmas.Bool.{and_parts, and_from, le-leb, leb-false, ne_eqb, cases_Bool, true≢false}
use Rattle.base_types.specs.Names.{is_site, is_op_name}
use Rattle.base_types.specs.declared.op_name.TheConstants.{MAX_SEQ}
use Rattle.base_types.proofs.Choices.{none_if}
use Rattle.rules.specs.declared.history.Op.{Op}
use Rattle.rules.specs.declared.history.Entry.{Entry}
use Rattle.rules.specs.declared.history.Entry.TheVariants.{Join, Operation, Next}
use Rattle.rules.specs.declared.refusal.Refusal.TheVariants.{RoomFull, RecordFull, WrongSeq, TooManyObjects, Renewed}
use Rattle.rules.specs.declared.limits.LimitValues.{LimitValues}
use Rattle.rules.specs.Bodies.{is_change_body}
use Rattle.rules.specs.Admission.{Condition, count_at_site, first_that_applies, causal_conditions}
use Rattle.rules.specs.steps.Histories.{causal_refusal}
use Rattle.rules.proofs.Records.{count_at_site-length}
use Rattle.rules.specs.Records.{operations, objects, sites, is_placed, admits, refusal, conditions, open_conditions, has_ended, order_conditions, creation_conditions, change_conditions}

-- what isn't absent is there, and the other way round
pub is_some-not_none : {X : Type 0} (r : Option X) → is_none r ≡ false → is_some r ≡ true
is_some-not_none None e = absurd (true≢false e)
is_some-not_none (Some x) e = refl

pub is_none_if : {X : Type 0} (r : Option X) → is_some r ≡ true → is_none r ≡ false
is_none_if None e = absurd (true≢false (sym e))
is_none_if (Some x) e = refl

-- the first condition doesn't apply, nor any later one
pub not_first : (c : Condition) (cs : List Condition) → first_that_applies (c ∷ cs) ≡ None → (c.0 ≡ false) × (first_that_applies cs ≡ None)
not_first c cs e = go c.0 e
  where
    go : (b : Bool) → option_map (λ (d : Condition). d.1) (cond b (Some c) (find (λ (d : Condition). d.0) cs)) ≡ None → (b ≡ false) × (first_that_applies cs ≡ None)
    go true h = absurd cc
    go false h = (refl, h)

-- no condition of two lists applies
pub none_of_both : (cs ds : List Condition) → first_that_applies (cs ++ ds) ≡ None → (first_that_applies cs ≡ None) × (first_that_applies ds ≡ None)
none_of_both [] ds e = (refl, e)
none_of_both (c ∷ cs) ds e =
    let a = not_first c (cs ++ ds) e in
    let b = none_of_both cs ds a.1 in
    (step c.0 a.0 b.0, b.1)
  where
    step : (b : Bool) → b ≡ false → first_that_applies cs ≡ None → option_map (λ (d : Condition). d.1) (cond b (Some c) (find (λ (d : Condition). d.0) cs)) ≡ None
    step true f h = absurd cc
    step false f h = h

module _ (b : LimitValues) (r : List Entry) where
  -- an entry that is admitted finds a record that has not ended, and no condition applies
  pub open_if_admitted : (e : Entry) → admits b r e ≡ true → (has_ended r ≡ false) × (first_that_applies (open_conditions b r e) ≡ None)
  unfolding refusal
  open_if_admitted e a = not_first (has_ended r, Renewed) (open_conditions b r e) (none_if (first_that_applies (conditions b r e)) (and_parts (is_placed r e) (is_none (first_that_applies (conditions b r e))) a).1)

  pub none_applies : (e : Entry) → admits b r e ≡ true → first_that_applies (open_conditions b r e) ≡ None
  none_applies e a = (open_if_admitted e a).1

  -- the end finds room for an entry
  pub room_for_end : (count : ℕ) → admits b r (Next count) ≡ true → length r < b.entries
  room_for_end count a = leb-false b.entries (length r) (not_first (leb b.entries (length r), RecordFull) [] (none_applies (Next count) a)).0

  -- a join that is admitted finds room for a site and an entry
  pub room_for_join : (site : ℕ) → admits b r (Join site) ≡ true → (sites r < b.joins) × (length r < b.entries)
  room_for_join site a =
      let x = not_first (leb b.joins (sites r), RoomFull) ((leb b.entries (length r), RecordFull) ∷ []) (none_applies (Join site) a) in
      let y = not_first (leb b.entries (length r), RecordFull) [] x.1 in
      (leb-false b.joins (sites r) x.0, leb-false b.entries (length r) y.0)

  -- and so does an operation, of which no causal condition applies
  pub room_for_operation : (op : Op) → admits b r (Operation op) ≡ true → (length r < b.entries) × (causal_refusal (operations r) op.name op.seen ≡ None)
  unfolding causal_refusal
  room_for_operation op a =
      let x = none_of_both (order_conditions b r op) (cond (is_change_body op.body) (change_conditions b (operations r) op) (creation_conditions b r)) (none_applies (Operation op) a) in
      let y = not_first (leb b.entries (length r), RecordFull) (causal_conditions (operations r) op.name op.seen) x.0 in
      (leb-false b.entries (length r) y.0, y.1)

  -- a creation finds room for an object
  pub room_for_object : (op : Op) → admits b r (Operation op) ≡ true → is_change_body op.body ≡ false → length (objects r) < b.objects
  room_for_object op a e =
      let x = none_of_both (order_conditions b r op) (cond (is_change_body op.body) (change_conditions b (operations r) op) (creation_conditions b r)) (none_applies (Operation op) a) in
      let y : first_that_applies (creation_conditions b r) ≡ None = rw e at x.1 in
      leb-false b.objects (length (objects r)) (not_first (leb b.objects (length (objects r)), TooManyObjects) [] y).0

  unnamed_if_open : (op : Op) → is_site op.name.0 ≡ true → is_op_name op.name ≡ false → b.entries ≤ MAX_SEQ
      → first_that_applies (open_conditions b r (Operation op)) ≡ cond (leb b.entries (length r)) (Some RecordFull) (Some WrongSeq)
  unnamed_if_open op site out small = elim (cases_Bool (leb b.entries (length r))) [
    | inl t ↦ rw t refl
    | inr f ↦
        (let wrong : eqb op.name.1 (count_at_site (operations r) op.name.0 + 1) ≡ false = ne_eqb _ _ (λ same.
        let few : count_at_site (operations r) op.name.0 ≤ length r = count_at_site-length r op.name.0 in
        let short : length r < b.entries = leb-false b.entries (length r) f in
        let named : leb 1 op.name.1 && leb op.name.1 MAX_SEQ ≡ true = and_from _ _ (le-leb 1 op.name.1 (omega arith)) (le-leb op.name.1 MAX_SEQ (omega arith)) in
        true≢false (sym (and_from _ _ site named) ∙ out)) in
        rw (f, wrong) refl)
  ]

  -- an operation whose name is out of range is refused for its number, where the record isn't full
  pub unnamed_refusal : (op : Op) → is_site op.name.0 ≡ true → is_op_name op.name ≡ false → b.entries ≤ MAX_SEQ
      → refusal b r (Operation op) ≡ cond (has_ended r) (Some Renewed) (cond (leb b.entries (length r)) (Some RecordFull) (Some WrongSeq))
  unfolding refusal
  unnamed_refusal op site out small = elim (cases_Bool (has_ended r)) [
    | inl t ↦ rw t refl
    | inr f ↦ rw f (unnamed_if_open op site out small)
  ]
