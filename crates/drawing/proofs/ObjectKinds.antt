-- The objects of a record with their kinds, from its shapes.
use Rattle.std.proofs.Common.{◌≡◌, List}
use Rattle.base_types.specs.Names.{Name}
use Rattle.rules.specs.declared.history.Entry.{Entry}
use Rattle.rules.specs.declared.limits.LimitValues.{LimitValues}
use Rattle.rules.specs.Bodies.{kind_of_body}
use Rattle.shape.specs.steps.Objects.{Stored}
use Rattle.drawing.specs.steps.Objects.{objects_with_changes, without_spare}
use Rattle.drawing.proofs.Lookup.{listed}
use Rattle.drawing.specs.Room.{all_objects}
use Rattle.drawing.specs.steps.State.{kinds_of}

pub kinds_listed : (l : LimitValues) (r : List Entry) (shapes : List (Name × Stored)) → without_spare shapes ≡ objects_with_changes l r → kinds_of shapes ≡ all_objects r
kinds_listed l r shapes are = listed l r shapes are (λ name op. (name, kind_of_body op.body))
