-- Why an operation isn't taken: what is asked of each first, then what it does.
use Rattle.std.proofs.Common.{◌≡◌, ◌≢◌, Bool, true, false, not, List, [], ◌∷◌, ◌++◌, length, refl, sym, ap, ◌∙◌, subst, arith, Option, Some, None, cond, ◌&&◌, ◌||◌, leb, ltb, eqb, inl, inr}
use Rattle.std.specs.Prelude.{is_some, option_map}
use Rattle.std.specs.List.{list_any}
use Rattle.std.proofs.lemmas.Bool.{true≢false, and_from, and_parts, cases_Bool, not-true, not_from_false, leb-true, le-leb, ltb-true, lt-ltb, leb-false, or_parts}
use Rattle.base_types.specs.Names.{Name}
use Rattle.base_types.specs.Vectors.{count_of, counts, is_vector}
use Rattle.rules.specs.declared.history.Op.{Op}
use Rattle.rules.specs.declared.history.Entry.{Entry}
use Rattle.rules.specs.declared.history.Entry.TheVariants.{Operation}
use Rattle.rules.specs.declared.refusal.Refusal.{Refusal}
use Rattle.rules.specs.declared.refusal.Refusal.TheVariants.{RecordFull, OwnCount, NotClosed}
use Rattle.rules.specs.Admission.{Condition, count_at_site, first_that_applies, has_wrong_own_count}
use Rattle.rules.specs.Admission.{has_wrong_seq, is_not_closed, names_counted}
use Rattle.rules.specs.steps.Histories.{causal_refusal}
use Rattle.rules.specs.Bodies.{is_change_body}
use Rattle.rules.specs.declared.limits.LimitValues.{LimitValues}
use Rattle.rules.specs.Operations.{operation}
use Rattle.rules.specs.Records.{creation_conditions, operations, change_conditions}
use Rattle.rules.proofs.Conditions.{not_first}
use Rattle.rules.proofs.Counted.{In-names_counted, In-names_counted_back, count_in, count_of_pair, count_positive, found}
use Rattle.rules.proofs.Lists.{any_back, any_from}
use Rattle.rules.proofs.Relation.{same_answer}
use Rattle.shape.proofs.Refusals.{first_of_front, front_passed}
use Rattle.drawing.specs.steps.Additions.{IsNext, body_refusal}
use Rattle.drawing.specs.steps.Faults.{IsAddRefusal}
use Rattle.drawing.specs.declared.fault.AddFault.{AddFault}
use Rattle.drawing.specs.declared.fault.AddFault.TheVariants as add_fault
use Rattle.late_join.specs.declared.fault.TakeFault.{TakeFault}
use Rattle.late_join.specs.declared.fault.TakeFault.TheVariants.{Repeat, Early, Refused, NoMemory}
use Rattle.late_join.specs.steps.Steps.{arrival_fault, of_adding}
use Rattle.late_join.specs.Taking.{arriving_conditions, has_joined, is_early, is_repeat, lacks_another, take_fault}
use Rattle.late_join.proofs.Taken.{IsSound, not_ahead, operation_there}

-- ---- which operations are missing

-- one of another site is missing where the count is above the number of that site's operations
pub lacks_is : (h : List Op) → IsSound h → (o : Op) → is_vector o.seen ≡ true → list_any (λ pair. not (eqb pair.0 o.name.0) && ltb (count_at_site h pair.0) pair.1) o.seen ≡ lacks_another h o
lacks_is h s o r = same_answer _ _
    (λ e.
    let c = any_back (λ pair. not (eqb pair.0 o.name.0) && ltb (count_at_site h pair.0) pair.1) o.seen e in
    let d = and_parts (not (eqb c.0.0 o.name.0)) (ltb (count_at_site h c.0.0) c.0.1) c.2 in
    let low = count_positive o.seen c.0 r c.1 in
    let counted : counts o.seen c.0 ≡ true = le-leb _ _ (omega (arith, count_of_pair o.seen c.0 r c.1)) in
    let absent : is_some (operation h c.0) ≡ false = elim (cases_Bool (is_some (operation h c.0))) [
      | inr f ↦ f
      | inl t ↦
          (let a = found h c.0 t in
          let last = s.numbered.numbered a.0 a.1 in
          let p : a.0.name.1 ≡ c.0.1 = ap (λ (n : Name). n.1) a.2 in
          let q : count_at_site h a.0.name.0 ≡ count_at_site h c.0.0 = ap (λ (n : Name). count_at_site h n.0) a.2 in
          let more = ltb-true (count_at_site h c.0.0) c.0.1 d.1 in
          absurd (omega (arith, last, p, q, more)))
    ] in
    any_from (λ name. not (eqb name.0 o.name.0) && not (is_some (operation h name))) c.0 (names_counted o.seen) (In-names_counted o.seen c.0 low counted)
    (and_from (not (eqb c.0.0 o.name.0)) (not (is_some (operation h c.0))) d.0 (not_from_false _ absent)))
    (λ e.
    let c = any_back (λ name. not (eqb name.0 o.name.0) && not (is_some (operation h name))) (names_counted o.seen) e in
    let d = and_parts (not (eqb c.0.0 o.name.0)) (not (is_some (operation h c.0))) c.2 in
    let n = In-names_counted_back o.seen c.0 r c.1 in
    let within = leb-true _ _ n.counted in
    let fewer : ltb (count_at_site h c.0.0) (count_of o.seen c.0.0) ≡ true = elim (cases_Bool (leb c.0.1 (count_at_site h c.0.0))) [
      | inr f ↦ (let g = Rattle.std.proofs.lemmas.Bool.leb-false c.0.1 (count_at_site h c.0.0) f in lt-ltb _ _ (omega (arith, g, within)))
      | inl t ↦
          (let a = s.whole c.0 n.low (leb-true c.0.1 (count_at_site h c.0.0) t) in
          let there : is_some (operation h c.0) ≡ true = subst (λ m. is_some (operation h m) ≡ true) a.2 (operation_there h a.0 a.1) in
          absurd (true≢false (sym there ∙ not-true _ d.1)))
    ] in
    any_from (λ pair. not (eqb pair.0 o.name.0) && ltb (count_at_site h pair.0) pair.1) (c.0.0, count_of o.seen c.0.0) o.seen (count_in o.seen c.0.0 (omega (arith, within, n.low)))
    (and_from (not (eqb c.0.0 o.name.0)) (ltb (count_at_site h c.0.0) (count_of o.seen c.0.0)) d.0 fewer))

-- ---- what is asked first

record Arrived (b : LimitValues) (t : List Entry) (o : Op) : Type 0 where
  seq : has_wrong_seq (operations t) o.name ≡ false
  another : lacks_another (operations t) o ≡ false
  own : has_wrong_own_count o.name o.seen ≡ false
  closed : is_not_closed (operations t) o.seen ≡ false

module _ (b : LimitValues) (t : List Entry) (o : Op) where
  abbrev front : List Condition
  front = arriving_conditions b t o

  abbrev rest : List Condition
  rest = cond (is_change_body o.body) (change_conditions b (operations t) o) (creation_conditions b t)

  none_map : (q : Option Refusal) → option_map Refused q ≡ None → q ≡ None
  none_map None e = refl
  none_map (Some r) e = absurd cc

  some_map : (q : Option Refusal) (f : TakeFault) → option_map Refused q ≡ Some f → (r : Refusal) × (q ≡ Some r) × (Some (Refused r) ≡ Some f)
  some_map None f e = absurd cc
  some_map (Some r) f e = (r, refl, e)

  -- a fault that is found first is the fault
  pub fault_if : (f : TakeFault) → arrival_fault b t o ≡ Some f → take_fault b t (Operation o) ≡ Some f
  unfolding take_fault
  fault_if f e = go (is_repeat t (Operation o)) (is_early t (Operation o)) e
    where
      go : (r y : Bool) → cond r (Some Repeat) (cond y (Some Early) (option_map Refused (first_that_applies front))) ≡ Some f
          → cond r (Some Repeat) (cond y (Some Early) (option_map Refused (first_that_applies (front ++ rest)))) ≡ Some f
      go true y e = e
      go false true e = e
      go false false e =
          let m = some_map (first_that_applies front) f e in
          ap (option_map Refused) (first_of_front front rest m.0 m.1) ∙ m.2

  module _ (arrived : arrival_fault b t o ≡ None) where
    -- otherwise it is refused for what it does
    pub fault_is : take_fault b t (Operation o) ≡ option_map Refused (first_that_applies rest)
    unfolding take_fault
    fault_is = go (is_repeat t (Operation o)) (is_early t (Operation o)) arrived
      where
        go : (r y : Bool) → cond r (Some Repeat) (cond y (Some Early) (option_map Refused (first_that_applies front))) ≡ None
            → cond r (Some Repeat) (cond y (Some Early) (option_map Refused (first_that_applies (front ++ rest)))) ≡ option_map Refused (first_that_applies rest)
        go true y e = absurd cc
        go false true e = absurd cc
        go false false e = ap (option_map Refused) (front_passed front rest (none_map (first_that_applies front) e))

    parts : (is_early t (Operation o) ≡ false) × (first_that_applies front ≡ None)
    parts = go (is_repeat t (Operation o)) (is_early t (Operation o)) arrived
      where
        go : (r y : Bool) → cond r (Some Repeat) (cond y (Some Early) (option_map Refused (first_that_applies front))) ≡ None → (y ≡ false) × (first_that_applies front ≡ None)
        go true y e = absurd cc
        go false true e = absurd cc
        go false false e = (refl, none_map (first_that_applies front) e)

    has_arrived : Arrived b t o
    has_arrived =
        let e = or_parts (not (has_joined t o.name.0) || has_wrong_seq (operations t) o.name) (lacks_another (operations t) o) parts.0 in
        let f = or_parts (not (has_joined t o.name.0)) (has_wrong_seq (operations t) o.name) e.0 in
        let first = not_first (leb b.entries (length t), RecordFull) ((has_wrong_own_count o.name o.seen, OwnCount) ∷ (is_not_closed (operations t) o.seen, NotClosed) ∷ []) parts.1 in
        let second = not_first (has_wrong_own_count o.name o.seen, OwnCount) ((is_not_closed (operations t) o.seen, NotClosed) ∷ []) first.1 in
        record { seq = f.1; another = e.1; own = second.0; closed = (not_first (is_not_closed (operations t) o.seen, NotClosed) [] second.1).0 }

    -- it may come next after the operations that were taken
    pub next_causal : IsSound (operations t) → is_vector o.seen ≡ true → causal_refusal (operations t) o.name o.seen ≡ None
    unfolding causal_refusal
    next_causal s v =
        let k = has_arrived in
        let a = not_ahead (operations t) o s.numbered.history s.whole v k.seq k.own k.another in
        let q = k.seq in let w = k.own in let c = k.closed in
        rw (q, w, a, c) refl

    -- so it may come next to a drawing of these entries
    pub may_be_next : IsSound (operations t) → is_vector o.seen ≡ true → IsNext (record { limits = b; entries = t }) o
    may_be_next s v = record {
      vector = v;
      ready = next_causal s v;
      short = leb-false b.entries (length t) (not_first (leb b.entries (length t), RecordFull) ((has_wrong_own_count o.name o.seen, OwnCount) ∷ (is_not_closed (operations t) o.seen, NotClosed) ∷ []) parts.1).0;
    }

    -- and is refused where that refuses what it does
    pub refused_so : (fault : AddFault) → IsAddRefusal (body_refusal (record { limits = b; entries = t }) o) fault → of_adding fault ≢ NoMemory → take_fault b t (Operation o) ≡ Some (of_adding fault)
    refused_so (add_fault.Refused why) is n = fault_is ∙ ap (option_map Refused) (is (λ e. cc))
    refused_so add_fault.NoMemory is n = absurd (n refl)

    -- and taken where that allows it
    pub taken_so : body_refusal (record { limits = b; entries = t }) o ≡ None → take_fault b t (Operation o) ≡ None
    taken_so allowed = fault_is ∙ ap (option_map Refused) allowed
