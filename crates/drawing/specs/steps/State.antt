-- What a drawing keeps beside its record: for how much more there is memory.
use Rattle.std.specs.Prelude.{ℕ, ◌-◌, List, map, slice_index}
use Rattle.base_types.specs.Names.{Name}
use Rattle.base_types.specs.Texts.{Bytes}
use Rattle.rules.specs.Bodies.{kind_of_body}
use Rattle.shape.specs.steps.Objects.{Stored}
use Rattle.drawing.specs.Room.{Room}

-- the names and kinds of objects
abbrev pub kinds_of : List (Name × Stored) → List (Name × Bytes)
kinds_of shapes = map (λ shape. (shape.0, kind_of_body shape.1.object.creation.body)) shapes

-- for how many more entries, operations of each site, objects, and changes on each object there is
-- memory; no part of the room
pub record Reserve : Type 0 where
  pub entries : ℕ
  pub operations : List ℕ
  pub objects : ℕ
  pub shapes : List (Name × Stored)

pub record DrawingState : Type 0 where
  pub room : Room
  pub reserve : Reserve

-- for how many more operations of a site there is memory
abbrev pub spare_of : DrawingState → ℕ → ℕ
spare_of s site = slice_index s.reserve.operations (site - 1)
