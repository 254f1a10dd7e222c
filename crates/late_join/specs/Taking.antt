-- Which entry may be taken after others, in any causal order.
use Rattle.std.specs.Prelude.{ℕ, Bool, true, false, not, ◌&&◌, ◌||◌, List, [], ◌∷◌, ◌++◌}
use Rattle.std.specs.Prelude.{Option, Some, ◌==◌, nat_le, nat_lt, length, is_some, is_none}
use Rattle.std.specs.Prelude.{option_map, if◌then◌else◌}
use Rattle.std.specs.List.{list_any}
use Rattle.std.specs.List.Sorted.{IsPermutation}
use Rattle.base_types.specs.Vectors.{is_vector}
use Rattle.rules.specs.declared.history.Op.{Op}
use Rattle.rules.specs.declared.history.Entry.{Entry}
use Rattle.rules.specs.declared.history.Entry.TheVariants.{Join, Operation, Next}
use Rattle.rules.specs.declared.refusal.Refusal.TheVariants.{RoomFull, RecordFull, OwnCount}
use Rattle.rules.specs.declared.refusal.Refusal.TheVariants.{NotClosed}
use Rattle.rules.specs.declared.limits.LimitValues.{LimitValues}
use Rattle.rules.specs.Operations.{operation}
use Rattle.rules.specs.Admission.{Condition, first_that_applies, names_counted, count_at_site}
use Rattle.rules.specs.Admission.{has_wrong_seq, has_wrong_own_count, is_ahead, is_not_closed}
use Rattle.rules.specs.Records.{operations, body_conditions, has_ended, next_conditions, EachAfter}
use Rattle.late_join.specs.declared.fault.TakeFault.{TakeFault}
use Rattle.late_join.specs.declared.fault.TakeFault.TheVariants.{Repeat, Early, Refused}

abbrev pub is_join_of : ℕ → Entry → Bool
is_join_of site (Join other) = other == site
is_join_of site _ = false

abbrev pub has_joined : List Entry → ℕ → Bool
has_joined t site = list_any (is_join_of site) t

-- the entry was taken: an operation by its number, an end by any end
abbrev pub is_repeat : List Entry → Entry → Bool
is_repeat t (Join site) = has_joined t site
is_repeat t (Operation op) = nat_le op.name.1 (count_at_site (operations t) op.name.0)
is_repeat t (Next count) = has_ended t

-- the vector counts an operation of another site that was not taken
abbrev pub lacks_another : List Op → Op → Bool
lacks_another h op =
    list_any (λ name. not (name.0 == op.name.0) && not (is_some (operation h name)))
    (names_counted op.seen)

-- of an entry that is no repeat: something that it depends on was not taken, which is its site's join,
-- the site's previous operation, or an operation of another site that it counts
abbrev pub is_early : List Entry → Entry → Bool
is_early t (Operation op) =
    not (has_joined t op.name.0) || has_wrong_seq (operations t) op.name
    || lacks_another (operations t) op
is_early t _ = false

abbrev pub arriving_conditions : LimitValues → List Entry → Op → List Condition
arriving_conditions b t op =
    (nat_le b.entries (length t), RecordFull) ∷ (has_wrong_own_count op.name op.seen, OwnCount)
    ∷ (is_not_closed (operations t) op.seen, NotClosed) ∷ []

-- the conditions on an entry that is neither a repeat nor early. Joins come in any order of the sites,
-- and what comes before an end may be taken after it
abbrev pub taking_conditions : LimitValues → List Entry → Entry → List Condition
taking_conditions b t (Join site) =
    (site == 0 || nat_lt b.joins site, RoomFull) ∷ (nat_le b.entries (length t), RecordFull) ∷ []
taking_conditions b t (Operation op) = arriving_conditions b t op ++ body_conditions b t op
taking_conditions b t (Next count) = next_conditions b t

-- why this entry, whose vector is in range, is not taken after these
unfoldable pub take_fault : LimitValues → List Entry → Entry → Option TakeFault
take_fault b t entry =
    if is_repeat t entry then Some Repeat
    else (if is_early t entry then Some Early
    else option_map Refused (first_that_applies (taking_conditions b t entry)))

-- the vector of an operation is in range
abbrev pub is_entry : Entry → Bool
is_entry (Operation op) = is_vector op.seen
is_entry _ = true

abbrev pub may_take : LimitValues → List Entry → Entry → Bool
may_take b t entry = is_entry entry && is_none (take_fault b t entry)

abbrev pub IsTakeable : LimitValues → List Entry → Type 0
IsTakeable b t = EachAfter (may_take b) [] t

-- what an operation depends on was taken: its site's join, and each operation that it counts
abbrev pub has_past : List Entry → Entry → Bool
has_past t (Operation op) = has_joined t op.name.0 && not (is_ahead (operations t) op.seen)
has_past t _ = true

-- the entries of r in a causal order: each after what it depends on
pub record IsCausalOrderOf (r t : List Entry) : Type 0 where
  pub same : IsPermutation r t
  pub ordered : EachAfter has_past [] t
