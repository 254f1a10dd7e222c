-- The objects of a record with their changes.
use Rattle.std.specs.Prelude.{List, filter, map}
use Rattle.base_types.specs.Names.{Name}
use Rattle.rules.specs.Operations.{is_change_on}
use Rattle.rules.specs.Records.{objects, operations}
use Rattle.rules.specs.declared.limits.LimitValues.{LimitValues}
use Rattle.rules.specs.declared.history.Entry.{Entry}
use Rattle.rules.specs.declared.history.Op.{Op}
use Rattle.shape.specs.steps.Objects.{Object, Stored}

-- the object of a creation: all changes on it among these operations, in order of arrival
abbrev pub object_with_changes : LimitValues → List Op → Op → Object
object_with_changes limits h creation =
    record { limits = limits; creation = creation; changes = filter (is_change_on creation.name) h }

-- the objects of a record with their changes, by name, in order of creation
abbrev pub objects_with_changes : LimitValues → List Entry → List (Name × Object)
objects_with_changes limits r =
    map (λ creation. (creation.name, object_with_changes limits (operations r) creation))
    (objects r)

-- objects, without the memory that each has for more changes
abbrev pub without_spare : List (Name × Stored) → List (Name × Object)
without_spare shapes = map (λ shape. (shape.0, shape.1.object)) shapes
