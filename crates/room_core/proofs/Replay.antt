-- A room with one more entry that is admitted, and what it says that an operation is placed.
use Rattle.std.proofs.Common.{◌≡◌, ℕ, ◌+◌, ◌<◌, ◌≤◌, Bool, true, false, cond, List, [], ◌∷◌, ◌++◌, length, refl, sym, ap, ◌∙◌, arith, ◌&&◌, leb, None, Some}
use Rattle.std.specs.Prelude.{Option, ◌||◌, is_none}
use Rattle.std.proofs.lemmas.Bool.{and_from, and_parts, eq-eqb, leb-false}
use Rattle.rules.specs.declared.history.Op.{Op}
use Rattle.rules.specs.declared.history.Entry.{Entry}
use Rattle.rules.specs.declared.history.Entry.TheVariants.{Join, Operation, Next}
use Rattle.rules.specs.declared.refusal.Refusal.{Refusal}
use Rattle.rules.specs.declared.refusal.Refusal.TheVariants.{RecordFull}
use Rattle.rules.specs.Admission.{Condition, causal_conditions, first_that_applies}
use Rattle.rules.specs.steps.Histories.{causal_refusal}
use Rattle.rules.specs.Records.{body_conditions, end_condition, is_end, is_join, is_placed, operations, order_conditions, refusal, sites}
use Rattle.rules.proofs.Conditions.{not_first, room_for_join}
use Rattle.rules.proofs.Records.{has_ended-push, legal_push, sites-end, sites-join, sites-operation}
use Rattle.base_types.specs.Vectors.{is_vector}
use Rattle.shape.proofs.Refusals.{first_of_front, front_passed}
use Rattle.base_types.specs.Names.{Name}
use Rattle.rules.specs.Bodies.{is_change_body}
use Rattle.wire.specs.declared.reply.Reply.TheVariants.{Made, Taken}
use Rattle.drawing.specs.steps.Additions.{IsNext, body_refusal, planned_ids}
use Rattle.drawing.specs.Shown.{ids_with}
use Rattle.drawing.specs.Room.{Room}
use Rattle.drawing.proofs.Replay.{more}
use Rattle.room_core.specs.Answers.{entry_or_refusal, operation_answer, operation_reply, refusal_answer}
use Rattle.room_core.specs.steps.Kept.{IsRoom}
use Rattle.room_core.specs.steps.Plans.{IsAdmitted, order_refusal, refusal_in, reply_by}

-- ---- one more entry

module _ (room : Room) (joined : ℕ) (ended : Bool) (kept : IsRoom room joined ended) where
  joined_by : (e : Entry) → IsAdmitted room e → sites (room.entries ++ e ∷ []) ≡ sites room.entries + cond (is_join e) 1 0
  joined_by (Join site) a = sites-join room.entries site
  joined_by (Operation o) a = let e = sites-operation room.entries o in omega (arith, e)
  joined_by (Next count) a = let e = sites-end room.entries count in omega (arith, e)

  few_by : (e : Entry) → IsAdmitted room e → joined + cond (is_join e) 1 0 ≤ room.limits.joins
  few_by (Join site) a = let r = room_for_join room.limits room.entries site a in let j = kept.joins in omega (arith, r.0, j)
  few_by (Operation o) a = let f = kept.few in omega (arith, f)
  few_by (Next count) a = let f = kept.few in omega (arith, f)

  pub room_with : (e : Entry) → IsAdmitted room e → IsRoom (more room e) (joined + cond (is_join e) 1 0) (ended || is_end e)
  room_with e a = record {
    legal = legal_push room.limits room.entries e kept.legal a;
    joins = (let s = joined_by e a in let j = kept.joins in omega (arith, s, j));
    few = few_by e a;
    end = ap (λ b. b || is_end e) kept.end ∙ sym (has_ended-push room.entries e);
  }

-- the next join finds room where it isn't refused
pub room_for_next : (room : Room) → refusal_in room (Join (sites room.entries + 1)) ≡ None → length room.entries < room.limits.entries
room_for_next room e = (room_for_join room.limits room.entries (sites room.entries + 1) (and_from _ _ (eq-eqb (sites room.entries + 1) _ refl) (ap is_none e))).1

-- ---- an operation that is placed

module _ (room : Room) (o : Op) where
  abbrev front : List Condition
  front = end_condition room.entries ∷ order_conditions room.limits room.entries o

  in_two : refusal_in room (Operation o) ≡ first_that_applies (front ++ body_conditions room.limits room.entries o)
  unfolding refusal
  in_two = refl

  -- it is refused for the order first
  pub refused_first : (why : Refusal) → order_refusal room o ≡ Some why → operation_answer room o ≡ refusal_answer room why
  refused_first why e =
      ap (λ q. entry_or_refusal room q (Operation o) (operation_reply room o))
      (in_two ∙ first_of_front front (body_conditions room.limits room.entries o) why e)

  module _ (placed : is_placed room.entries (Operation o) ≡ true) (ordered : order_refusal room o ≡ None) where
    -- otherwise for what it does
    by_body : refusal_in room (Operation o) ≡ body_refusal room o
    by_body = in_two ∙ front_passed front (body_conditions room.limits room.entries o) ordered

    pub may_be_next : IsNext room o
    unfolding causal_refusal
    may_be_next =
        let going = not_first (end_condition room.entries) (order_conditions room.limits room.entries o) ordered in
        let parts = not_first (leb room.limits.entries (length room.entries), RecordFull) (causal_conditions (operations room.entries) o.name o.seen) going.1 in
        record {
          vector = (and_parts (leb 1 o.name.0 && leb o.name.0 (sites room.entries)) (is_vector o.seen) placed).1;
          ready = parts.1;
          short = leb-false room.limits.entries (length room.entries) parts.0;
        }

    pub answered : (q : Option Refusal) → body_refusal room o ≡ q → operation_answer room o ≡ entry_or_refusal room q (Operation o) (operation_reply room o)
    answered q e = ap (λ w. entry_or_refusal room w (Operation o) (operation_reply room o)) (by_body ∙ e)

    pub admitted : body_refusal room o ≡ None → IsAdmitted room (Operation o)
    admitted e = and_from _ _ placed (ap is_none (by_body ∙ e))

-- ---- the reply to it, by the identifiers that are planned

reply_by_body : (at : ℕ) (name : Name) (ids : List (List Name)) (b : Bool) → reply_by at name (cond b (Some ids) None) ≡ cond b (Taken at ids) (Made at name)
reply_by_body at name ids true = refl
reply_by_body at name ids false = refl

pub reply_is : (room : Room) (o : Op) → reply_by (length room.entries) o.name (planned_ids room o) ≡ operation_reply room o
reply_is room o = reply_by_body (length room.entries) o.name (ids_with room o) (is_change_body o.body)
