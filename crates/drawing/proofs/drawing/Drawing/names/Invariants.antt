use Rattle.std.proofs.Common.{◌≡◌, map, take}
use Rattle.base_types.specs.Names.{Name}
use Rattle.shape.specs.steps.Objects.{Stored}
use Rattle.drawing.proofs.drawing.Drawing.names.Given as goal

abbrev pub invariant-loop-place : goal.invariant-loop-place
invariant-loop-place l = l.names.items ≡ take l.place (map (λ (s : Name × Stored). s.0) l.shapes)
