-- Histories: parts of one, causal order as a relation, and what is on one object.
use Rattle.std.specs.Prelude.{Bool, ◌||◌, List, IsTrue, filter, Contains, Option, ◌↔◌}
use Rattle.base_types.specs.Names.{Name, same_name}
use Rattle.base_types.specs.Vectors.{counts, Vector}
use Rattle.rules.specs.declared.history.Op.{Op}
use Rattle.rules.specs.Operations.{is_on, IsHistory, before}
use Rattle.rules.specs.declared.refusal.Refusal.{Refusal}
use Rattle.rules.specs.Admission.{first_that_applies, causal_conditions}
use Rattle.rules.specs.declared.history.Entry.{Entry}
use Rattle.rules.specs.declared.limits.LimitValues.{LimitValues}
use Rattle.rules.specs.Records.{operations, IsLegal}

-- two operations are the same if their names are
abbrev pub same_op : Op → Op → Bool
same_op = λ a b. same_name a.name b.name

-- k is a part of the history h, and a history
pub record IsPartOf (k h : List Op) : Type 0 where
  pub part : IsHistory k
  pub whole : IsHistory h
  pub within : (o : Op) → Contains k o → Contains h o

-- k and h list the operations of one history
pub record AreSame (k h : List Op) : Type 0 where
  pub one : IsPartOf k h
  pub other : IsPartOf h k

-- a is before b: b's vector counts a, or some operation is between them
pub data Before (h : List Op) : Op → Op → Type 0 where
  direct : (a b : Op) → Contains h a → Contains h b → IsTrue (counts b.seen a.name) → Before h a b
  through : (a x b : Op) → Before h a x → Before h x b → Before h a b

-- a is b or before it
abbrev pub is_past : Op → Op → Bool
is_past b a = same_op a b || before a b

-- the operations on an object: its creation and its changes
abbrev pub operations_on : List Op → Name → List Op
operations_on h object = filter (is_on object) h

-- why an operation of this name and vector may not come next, if it may not
unfoldable pub causal_refusal : List Op → Name → Vector → Option Refusal
causal_refusal h name v = first_that_applies (causal_conditions h name v)

-- two records, each legal under some limits, have the same operations, in any order
pub record HoldTheSame (q r : List Entry) : Type 0 where
  pub one : (limits : LimitValues) × IsLegal limits q
  pub other : (limits : LimitValues) × IsLegal limits r
  pub same : (a : Op) → Contains (operations q) a ↔ Contains (operations r) a
