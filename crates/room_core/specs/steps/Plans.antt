-- What is planned for a room.
use Rattle.std.specs.Prelude.{◌≡◌, ◌∷◌, ℕ, true, List, Option, Some, None, Result, IfOk, option_map}
use Rattle.std.specs.Prelude.{if◌then◌else◌}
use Rattle.base_types.specs.Names.{Name}
use Rattle.rules.specs.declared.history.Op.{Op}
use Rattle.rules.specs.declared.history.Entry.{Entry}
use Rattle.rules.specs.declared.refusal.Refusal.{Refusal}
use Rattle.rules.specs.Admission.{first_that_applies}
use Rattle.rules.specs.Records.{end_condition, order_conditions, admits, refusal}
use Rattle.wire.specs.declared.reply.Reply.{Reply}
use Rattle.wire.specs.declared.reply.Reply.TheVariants.{Made, Taken}
use Rattle.drawing.specs.steps.Additions.{Added, IsReady as CanBeAdded}
use Rattle.drawing.specs.Room.{Room}
use Rattle.drawing.specs.steps.State.{DrawingState}
use Rattle.room_core.specs.Answers.{Outcome}

-- a reply, and what is added with it
pub record Plan : Type 0 where
  pub reply : Reply
  pub addition : Option Added

-- the entry that is added, if there is one
abbrev pub entry_added : Option Added → Option Entry
entry_added addition = option_map (λ added. added.entry) addition

-- the reply, and the entry that is added if there is one
abbrev pub outcome : Plan → Outcome
outcome plan = (plan.reply, entry_added plan.addition)

-- the reply to an operation of this name, by the identifiers of its object's versions: a creation
-- has none
abbrev pub reply_by : ℕ → Name → Option (List (List Name)) → Reply
reply_by at name None = Made at name
reply_by at name (Some ids) = Taken at ids

-- ---- what may come next

-- why an entry is refused, if it is
abbrev pub refusal_in : Room → Entry → Option Refusal
refusal_in room entry = refusal room.limits room.entries entry

-- why an operation is refused, whatever it does, if it is
abbrev pub order_refusal : Room → Op → Option Refusal
order_refusal room op =
    first_that_applies (end_condition room.entries ∷ order_conditions room.limits room.entries op)

-- it may come next
abbrev pub IsAdmitted : Room → Entry → Type 0
IsAdmitted room entry = admits room.limits room.entries entry ≡ true

-- what is planned can be added in this state, and takes no memory
abbrev pub IsPlanReady : DrawingState → Option Added → Type 0
IsPlanReady s None = Unit {0}
IsPlanReady s (Some added) = CanBeAdded s added × IsAdmitted s.room added.entry

-- the answer is planned and can be given, or there is no memory for it; the room stays as it is
abbrev pub Plans : {E : Type 0} → DrawingState → DrawingState → Outcome → Result Plan E → Type 0
Plans old new answer result =
    IfOk result (λ plan. (outcome plan ≡ answer) × IsPlanReady new plan.addition)
    × (new.room ≡ old.room)

-- the entry itself, if it may come next
abbrev pub admitted : Room → Entry → Option Entry
admitted room entry = if admits room.limits room.entries entry then Some entry else None
