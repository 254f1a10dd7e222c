-- A replica, as contracts see it.
use Rattle.std.specs.Prelude.{List, [], ◌∷◌, ◌++◌}
use Rattle.rules.specs.declared.history.Entry.{Entry}
use Rattle.rules.specs.declared.limits.LimitValues.{LimitValues}

-- its limits, and the entries that it has taken, in that order
pub record ReplicaState : Type 0 where
  pub limits : LimitValues
  pub taken : List Entry

abbrev pub with_entries : ReplicaState → List Entry → ReplicaState
with_entries s entries = record { limits = s.limits; taken = s.taken ++ entries }

abbrev pub with_taken : ReplicaState → Entry → ReplicaState
with_taken s entry = with_entries s (entry ∷ [])
