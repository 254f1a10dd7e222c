-- The record of a room: its joins and operations in order, and which entry may come next.
use Rattle.std.specs.Prelude.{◌≡◌, ℕ, ◌+◌, Bool, true, false, not, ◌&&◌, List, [], ◌∷◌, ◌++◌}
use Rattle.std.specs.Prelude.{Option, Some, None, ◌==◌, nat_le, nat_lt, filter, filter_map}
use Rattle.std.specs.Prelude.{count_by, length, is_none, if◌then◌else◌}
use Rattle.std.specs.List.{list_any}
use Rattle.base_types.specs.Vectors.{is_vector}
use Rattle.rules.specs.declared.history.Op.{Op}
use Rattle.rules.specs.declared.history.Entry.{Entry}
use Rattle.rules.specs.declared.history.Entry.TheVariants.{Join, Operation, Next}
use Rattle.rules.specs.declared.refusal.Refusal.{Refusal}
use Rattle.rules.specs.declared.refusal.Refusal.TheVariants.{RoomFull, RecordFull, NoSuchObject}
use Rattle.rules.specs.declared.refusal.Refusal.TheVariants.{NoSuchVersion, Gone, ObjectFull}
use Rattle.rules.specs.declared.refusal.Refusal.TheVariants.{TooManyKeys, TooManyVersions}
use Rattle.rules.specs.declared.refusal.Refusal.TheVariants.{TooManyObjects, Renewed}
use Rattle.rules.specs.declared.limits.LimitValues.{LimitValues}
use Rattle.rules.specs.declared.limits.TheConstants.Limits.{MAX_ENTRIES}
use Rattle.rules.specs.Bodies.{is_change_body, is_put_body}
use Rattle.rules.specs.Operations.{holds_drop, object_of, changes_on}
use Rattle.rules.specs.Admission.{Condition, first_that_applies, causal_conditions}
use Rattle.rules.specs.Conflicts.{base, has_object, members}
use Rattle.rules.specs.Versions.{groups, keys_of}

abbrev pub is_join : Entry → Bool
is_join (Join site) = true
is_join _ = false

abbrev pub operation_in : Entry → Option Op
operation_in (Operation op) = Some op
operation_in _ = None

abbrev pub is_end : Entry → Bool
is_end (Next count) = true
is_end _ = false

abbrev pub has_ended : List Entry → Bool
has_ended r = list_any is_end r

-- the number of sites that have joined
abbrev pub sites : List Entry → ℕ
sites r = count_by is_join r

abbrev pub operations : List Entry → List Op
operations r = filter_map operation_in r

-- its creations, in order: one for each object
abbrev pub objects : List Entry → List Op
objects r = filter (λ op. not (is_change_body op.body)) (operations r)

-- the conditions on the end of a record
abbrev pub next_conditions : LimitValues → List Entry → List Condition
next_conditions b r = (nat_le b.entries (length r), RecordFull) ∷ []

-- the conditions on each operation
abbrev pub order_conditions : LimitValues → List Entry → Op → List Condition
order_conditions b r op = (nat_le b.entries (length r), RecordFull)
    ∷ causal_conditions (operations r) op.name op.seen

-- and on a creation
abbrev pub creation_conditions : LimitValues → List Entry → List Condition
creation_conditions b r = (nat_le b.objects (length (objects r)), TooManyObjects) ∷ []

-- a put with which these changes have more keys than the limit
abbrev pub has_too_many_keys : LimitValues → List Op → Op → Bool
has_too_many_keys b changes op =
    is_put_body op.body && nat_lt b.keys (length (keys_of (changes ++ op ∷ [])))

-- with the change its object has more versions than the limit
abbrev pub has_too_many_versions : LimitValues → List Op → Op → Bool
has_too_many_versions b h op = nat_lt b.versions (length (groups (h ++ op ∷ []) (object_of op)))

-- and on a change of an object that exists
abbrev pub version_conditions : LimitValues → List Op → Op → List Condition
version_conditions b h op = let changes = changes_on h (object_of op) in
    (is_none (base h op), NoSuchVersion) ∷ (holds_drop (members (base h op)), Gone)
    ∷ (nat_le b.changes (length changes), ObjectFull)
    ∷ (has_too_many_keys b changes op, TooManyKeys)
    ∷ (has_too_many_versions b h op, TooManyVersions) ∷ []

-- and on any change
abbrev pub change_conditions : LimitValues → List Op → Op → List Condition
change_conditions b h op = (not (has_object h op), NoSuchObject) ∷ version_conditions b h op

-- the conditions on an operation for what it does
abbrev pub body_conditions : LimitValues → List Entry → Op → List Condition
body_conditions b r op =
    if is_change_body op.body then change_conditions b (operations r) op
    else creation_conditions b r

-- the conditions on an entry of a record that has not ended, in order
abbrev pub open_conditions : LimitValues → List Entry → Entry → List Condition
open_conditions b r (Join site) =
    (nat_le b.joins (sites r), RoomFull) ∷ (nat_le b.entries (length r), RecordFull) ∷ []
open_conditions b r (Operation op) = order_conditions b r op ++ body_conditions b r op
open_conditions b r (Next count) = next_conditions b r

-- the condition on each entry: nothing comes after the end
abbrev pub end_condition : List Entry → Condition
end_condition r = (has_ended r, Renewed)

-- the conditions on an entry, in order
abbrev pub conditions : LimitValues → List Entry → Entry → List Condition
conditions b r entry = end_condition r ∷ open_conditions b r entry

-- why this entry may not come next, where it is placed
unfoldable pub refusal : LimitValues → List Entry → Entry → Option Refusal
refusal b r entry = first_that_applies (conditions b r entry)

-- a join is of the next site, an operation of one that has joined; its vector is in range
abbrev pub is_placed : List Entry → Entry → Bool
is_placed r (Join site) = site == sites r + 1
is_placed r (Operation op) = nat_le 1 op.name.0 && nat_le op.name.0 (sites r) && is_vector op.seen
is_placed r (Next count) = nat_le count MAX_ENTRIES

abbrev pub admits : LimitValues → List Entry → Entry → Bool
admits b r entry = is_placed r entry && is_none (refusal b r entry)

-- each of the later entries passes, given all before it
abbrev pub EachAfter : (List Entry → Entry → Bool) → List Entry → List Entry → Type 0
EachAfter passes before [] = Unit {0}
EachAfter passes before (entry ∷ later) =
    (passes before entry ≡ true) × EachAfter passes (before ++ entry ∷ []) later

abbrev pub IsLegal : LimitValues → List Entry → Type 0
IsLegal b r = EachAfter (admits b) [] r
