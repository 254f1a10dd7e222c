-- What may be added to a drawing, and what is planned for it.
use Rattle.std.specs.Prelude.{◌≡◌, ℕ, ◌<◌, [], List, Option, Some, None, true, false, length}
use Rattle.std.specs.Prelude.{if◌then◌else◌}
use Rattle.std.specs.List.{position}
use Rattle.std.specs.Map.{lookup, keys_of}
use Rattle.base_types.specs.Names.{Name, same_name}
use Rattle.base_types.specs.Vectors.{is_vector}
use Rattle.rules.specs.declared.history.Op.{Op}
use Rattle.rules.specs.declared.history.Entry.{Entry}
use Rattle.rules.specs.declared.history.Entry.TheVariants.{Operation}
use Rattle.rules.specs.declared.refusal.Refusal.{Refusal}
use Rattle.rules.specs.Admission.{first_that_applies}
use Rattle.rules.specs.steps.Histories.{causal_refusal}
use Rattle.rules.specs.Bodies.{is_change_body}
use Rattle.rules.specs.Operations.{object_of}
use Rattle.rules.specs.Records.{operation_in, operations, body_conditions}
use Rattle.shape.specs.steps.Objects.{Stored}
use Rattle.shape.specs.steps.Planned.{IsPlanned, Plan as ChangePlan}
use Rattle.drawing.specs.Room.{Room}
use Rattle.drawing.specs.Shown.{ids_with}
use Rattle.drawing.specs.steps.State.{DrawingState, spare_of}
use Rattle.drawing.specs.declared.addition.Part.{Part}
use Rattle.drawing.specs.declared.addition.Part.TheVariants as part

-- ---- what may come next

-- why an operation is refused for what it does, if it is
abbrev pub body_refusal : Room → Op → Option Refusal
body_refusal room op = first_that_applies (body_conditions room.limits room.entries op)

-- the operation may come next, whatever it does
pub record IsNext (room : Room) (op : Op) : Type 0 where
  pub vector : is_vector op.seen ≡ true
  pub ready : causal_refusal (operations room.entries) op.name op.seen ≡ None
  pub short : length room.entries < room.limits.entries

-- ---- what is planned

-- an entry, and what it adds beside itself
pub record Added : Type 0 where
  pub entry : Entry
  pub part : Part

-- the identifiers that are planned to be shown of a change's object
abbrev pub ids_of : Part → Option (List (List Name))
ids_of part.Alone = None
ids_of (part.Creation op shape) = None
ids_of (part.Change place op planned) = Some planned.value.ids

-- a shape stands under this name, at this place, and this holds of it
pub record HasShape (shapes : List (Name × Stored)) (name : Name) (place : ℕ) (Holds : Stored
    → Type 0) : Type 0 where
  pub at : position (same_name name) (keys_of shapes) ≡ Some place
  pub shape : Stored
  pub named : lookup (same_name name) shapes ≡ Some shape
  pub holds : Holds shape

pub record CanStandAlone (s : DrawingState) (entry : Entry) : Type 0 where
  pub alone : operation_in entry ≡ None
  pub short : length s.room.entries < s.room.limits.entries
  pub place : 0 < s.reserve.entries

pub record CanAdd (s : DrawingState) (entry : Entry) (op : Op) : Type 0 where
  pub operation : entry ≡ Operation op
  pub next : IsNext s.room op
  pub allowed : body_refusal s.room op ≡ None
  pub place : 0 < s.reserve.entries
  pub past_place : 0 < spare_of s op.name.0

pub record CanCreate (s : DrawingState) (op : Op) (shape : Stored) : Type 0 where
  pub creation : is_change_body op.body ≡ false
  pub created : shape.object ≡ record { limits = s.room.limits; creation = op; changes = [] }
  pub place : 0 < s.reserve.objects

pub record CanChange (s : DrawingState) (place : ℕ) (op : Op) (planned : ChangePlan) : Type 0 where
  pub change : is_change_body op.body ≡ true
  pub added : planned.addition.op ≡ op
  pub shape : HasShape s.reserve.shapes (object_of op) place (λ d. IsPlanned d planned)

-- this part of an entry can be added, and takes no memory
abbrev pub IsReadyPart : DrawingState → Entry → Part → Type 0
IsReadyPart s entry part.Alone = CanStandAlone s entry
IsReadyPart s entry (part.Creation op shape) = CanAdd s entry op × CanCreate s op shape.value
IsReadyPart s entry (part.Change place op planned) =
    CanAdd s entry op × CanChange s place op planned.value

-- the entry can be added as planned, and takes no memory
abbrev pub IsReady : DrawingState → Added → Type 0
IsReady s added = IsReadyPart s added.entry added.part

-- what of an operation's body is planned: of a change the identifiers with it, of a creation none
abbrev pub planned_ids : Room → Op → Option (List (List Name))
planned_ids room op = if is_change_body op.body then Some (ids_with room op) else None

-- the operation is planned and can be added
pub record IsPlanFor (room : Room) (op : Op) (s : DrawingState) (added : Added) : Type 0 where
  pub entry : added.entry ≡ Operation op
  pub ids : ids_of added.part ≡ planned_ids room op
  pub ready : IsReady s added
