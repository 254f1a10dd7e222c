-- A legal record's operations are a history in causal order, and each of its changes has its object and its base, in which there is no drop.
use Rattle.std.proofs.Common.{◌≡◌, true, false, not, List, [], ◌∷◌, ◌++◌, length, refl, sym, ap, ◌∙◌, subst, inl, inr, None, leb, cond, ◌&&◌}
use Rattle.std.specs.Prelude.{IsTrue, is_none, is_some, Bool, filter}
use Rattle.std.proofs.lemmas.Bool.{and_parts, cases_Bool, not-false, not_from_false, false_from_ne_true}
use Rattle.std.proofs.lemmas.List.Elements.{Contains-push_cases}
use Rattle.base_types.specs.Vectors.{is_vector}
use Rattle.rules.specs.declared.history.Op.{Op}
use Rattle.rules.specs.declared.history.Entry.{Entry}
use Rattle.rules.specs.declared.history.Entry.TheVariants.{Join, Operation, Next}
use Rattle.rules.specs.declared.refusal.Refusal.TheVariants.{NoSuchObject, NoSuchVersion, Gone, ObjectFull, TooManyKeys, TooManyVersions}
use Rattle.rules.specs.declared.limits.LimitValues.{LimitValues}
use Rattle.rules.specs.Bodies.{is_change_body}
use Rattle.rules.specs.Operations.{IsHistory, IsCausallyOrdered, before, holds_drop, is_creation_of, object_of, changes_on}
use Rattle.rules.specs.Admission.{Condition, first_that_applies}
use Rattle.rules.specs.Conflicts.{base, has_object, members, IsFounded}
use Rattle.rules.specs.Records.{operations, sites, admits, is_placed, refusal, order_conditions, change_conditions, creation_conditions, has_too_many_keys, has_too_many_versions, IsLegal}
use Rattle.rules.proofs.Lists.{In, In-from_Contains, Contains-from_In, In-append_left, In-filter_back, any_from, any_back}
use Rattle.rules.proofs.Histories.{IsNumbered, numbered_push, numbered_empty, not_counted}
use Rattle.rules.proofs.Records.{kept_by_admitted, operations-join, operations-end, operations-push}
use Rattle.rules.proofs.Conditions.{is_some-not_none, not_first, none_of_both, none_applies, room_for_operation}
use Rattle.rules.proofs.Agreement.{base_in_part}
use Rattle.rules.proofs.Parts.{part_of_grown, base_before_adding}

pub record HasGround (h : List Op) (op : Op) : Type 0 where
  pub object : has_object h op ≡ true
  pub based : is_some (base h op) ≡ true
  pub alive : holds_drop (members (base h op)) ≡ false

-- a change to which no condition on changes applies has its object and its base, in which there is no drop
pub ground_if : (b : LimitValues) (h : List Op) (op : Op) → first_that_applies (change_conditions b h op) ≡ None → HasGround h op
ground_if b h op none =
    let changes = changes_on h (object_of op) in
    let late = (leb b.changes (length changes), ObjectFull) ∷ (has_too_many_keys b changes op, TooManyKeys) ∷ (has_too_many_versions b h op, TooManyVersions) ∷ [] in
    let gone : Condition = (holds_drop (members (base h op)), Gone) in
    let first = not_first (not (has_object h op), NoSuchObject) ((is_none (base h op), NoSuchVersion) ∷ gone ∷ late) none in
    let second = not_first (is_none (base h op), NoSuchVersion) (gone ∷ late) first.1 in
    let third = not_first gone late second.1 in
    record { object = not-false (has_object h op) first.0; based = is_some-not_none (base h op) second.0; alive = third.0 }

-- and so has one that is admitted
ground_if_admitted : (b : LimitValues) (r : List Entry) (op : Op) → admits b r (Operation op) ≡ true → is_change_body op.body ≡ true → HasGround (operations r) op
ground_if_admitted b r op a e =
    let h = operations r in
    let x = none_of_both (order_conditions b r op) (cond (is_change_body op.body) (change_conditions b h op) (creation_conditions b r)) (none_applies b r (Operation op) a) in
    let none : first_that_applies (change_conditions b h op) ≡ None = rw e at x.1 in
    ground_if b h op none

-- a history in causal order, whose sites number their operations, and whose changes have their objects and bases
record IsSound (h : List Op) : Type 0 where
  numbered : IsNumbered h
  ordered : IsCausallyOrdered h
  founded : IsFounded h

object_stays : (h : List Op) (o op : Op) → has_object h op ≡ true → has_object (h ++ o ∷ []) op ≡ true
object_stays h o op e =
    let test : Op → Bool = λ a. is_creation_of (object_of op) a && before a op in
    let c = any_back test h e in
    any_from test c.0 (h ++ o ∷ []) (In-append_left c.0 h (o ∷ []) c.1) c.2

-- what a test keeps of a list in causal order is in causal order
pub ordered_filter : (p : Op → Bool) (h : List Op) → IsCausallyOrdered h → IsCausallyOrdered (filter p h)
ordered_filter p [] c = tt
ordered_filter p (x ∷ h) c = elim (cases_Bool (p x)) [
  | inl e ↦ rw e ((λ y m. c.0 y (Contains-from_In y h (In-filter_back p y h (In-from_Contains y (filter p h) m)).0)), ordered_filter p h c.1)
  | inr e ↦ rw e (ordered_filter p h c.1)
]

-- and so is such a list with one more that is before none of it
pub ordered_push : (h : List Op) (o : Op) → IsCausallyOrdered h → ((x : Op) → In x h → before o x ≡ false) → IsCausallyOrdered (h ++ o ∷ [])
ordered_push [] o c f = ((λ y m. absurd (In-from_Contains y [] m)), tt)
ordered_push (x ∷ h) o c f = (
  (λ y m. elim (Contains-push_cases h o y m) [
    | inl p ↦ c.0 y p
    | inr e ↦ subst (λ z. IsTrue (not (before z x))) e (not_from_false (before o x) (f x (inl refl)))
  ]),
  ordered_push h o c.1 (λ z m. f z (inr m)),
)

pub founded_push : (h : List Op) (o : Op) → IsHistory h → IsFounded h → IsHistory (h ++ o ∷ []) → (is_change_body o.body ≡ true → HasGround h o) → IsFounded (h ++ o ∷ [])
founded_push h o i f j ground = record {
  object = λ x m t. elim (Contains-push_cases h o x m) [
    | inl p ↦ object_stays h o x (f.object x p t)
    | inr e ↦ subst (λ z. has_object (h ++ o ∷ []) z ≡ true) e (object_stays h o o (ground (ap (λ (z : Op). is_change_body z.body) e ∙ t)).object)
  ];
  based = λ x m t. elim (Contains-push_cases h o x m) [
    | inl p ↦ ap is_some (sym (base_in_part (part_of_grown o i j) x p)) ∙ f.based x p t
    | inr e ↦ subst (λ z. is_some (base (h ++ o ∷ []) z) ≡ true) e (ap is_some (sym (base_before_adding o i j)) ∙ (ground (ap (λ (z : Op). is_change_body z.body) e ∙ t)).based)
  ];
  alive = λ x m t. elim (Contains-push_cases h o x m) [
    | inl p ↦ ap (λ r. holds_drop (members r)) (sym (base_in_part (part_of_grown o i j) x p)) ∙ f.alive x p t
    | inr e ↦ subst (λ z. holds_drop (members (base (h ++ o ∷ []) z)) ≡ false) e (ap (λ r. holds_drop (members r)) (sym (base_before_adding o i j)) ∙ (ground (ap (λ (z : Op). is_change_body z.body) e ∙ t)).alive)
  ];
}

sound_push : (b : LimitValues) (r : List Entry) (o : Op) → IsSound (operations r) → admits b r (Operation o) ≡ true → IsSound (operations r ++ o ∷ [])
sound_push b r o s a =
    let h = operations r in
    let none = (room_for_operation b r o a).1 in
    let vector : is_vector o.seen ≡ true = (and_parts (leb 1 o.name.0 && leb o.name.0 (sites r)) (is_vector o.seen) (and_parts (is_placed r (Operation o)) (is_none (refusal b r (Operation o))) a).0).1 in
    let n = numbered_push h o s.numbered none vector in
    record {
      numbered = n;
      ordered = ordered_push h o s.ordered (λ x m. false_from_ne_true (before o x) (λ t. not_counted h o s.numbered none vector x (Contains-from_In x h m) t));
      founded = founded_push h o s.numbered.history s.founded n.history (ground_if_admitted b r o a);
    }

sound_next : (b : LimitValues) (r : List Entry) (e : Entry) → IsSound (operations r) → admits b r e ≡ true → IsSound (operations (r ++ e ∷ []))
sound_next b r (Join site) s a = subst IsSound (sym (operations-join r site)) s
sound_next b r (Operation o) s a = subst IsSound (sym (operations-push r o)) (sound_push b r o s a)
sound_next b r (Next count) s a = subst IsSound (sym (operations-end r count)) s

sound_empty : IsSound []
sound_empty = record {
  numbered = numbered_empty;
  ordered = tt;
  founded = record {
    object = λ x m t. absurd (In-from_Contains x [] m);
    based = λ x m t. absurd (In-from_Contains x [] m);
    alive = λ x m t. absurd (In-from_Contains x [] m);
  };
}

sound : (b : LimitValues) (r : List Entry) → IsLegal b r → IsSound (operations r)
sound b = kept_by_admitted b (λ r. IsSound (operations r)) (λ r e l. sound_next b r e) sound_empty

-- a legal record's operations are a history
pub history_if_legal : (b : LimitValues) (r : List Entry) → IsLegal b r → IsHistory (operations r)
history_if_legal b r g = (sound b r g).numbered.history

-- in causal order
pub ordered_if_legal : (b : LimitValues) (r : List Entry) → IsLegal b r → IsCausallyOrdered (operations r)
ordered_if_legal b r g = (sound b r g).ordered

-- whose changes have their objects and bases
pub founded_if_legal : (b : LimitValues) (r : List Entry) → IsLegal b r → IsFounded (operations r)
founded_if_legal b r g = (sound b r g).founded
