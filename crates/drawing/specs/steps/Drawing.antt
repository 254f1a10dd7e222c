-- What a drawing's type keeps: it is the replay of its record.
use Rattle.std.specs.Prelude.{◌≡◌, ◌≤◌, List, length}
use Rattle.base_types.specs.Names.{Name}
use Rattle.rules.specs.declared.history.Op.{Op}
use Rattle.rules.specs.Operations.{IsHistory, IsCausallyOrdered}
use Rattle.rules.specs.Conflicts.{IsFounded}
use Rattle.rules.specs.Records.{operations, objects}
use Rattle.shape.specs.steps.Objects.{Stored}
use Rattle.drawing.specs.steps.Objects.{objects_with_changes, without_spare}
use Rattle.drawing.specs.Room.{Room}

-- a history in causal order, whose changes have their objects and bases
pub record IsSound (h : List Op) : Type 0 where
  pub history : IsHistory h
  pub ordered : IsCausallyOrdered h
  pub founded : IsFounded h

-- the record's operations are sound, and it is within the limits; its objects with their changes
-- and its operations are these
pub record IsReplay (room : Room) (shapes : List (Name × Stored)) (history : List Op) : Type 0 where
  pub sound : IsSound (operations room.entries)
  pub shapes_are : without_spare shapes ≡ objects_with_changes room.limits room.entries
  pub past : history ≡ operations room.entries
  pub short : length room.entries ≤ room.limits.entries
  pub fits : length (objects room.entries) ≤ room.limits.objects
