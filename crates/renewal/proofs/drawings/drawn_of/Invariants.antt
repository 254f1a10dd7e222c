use Rattle.std.proofs.Common.{◌≡◌, take}
use Rattle.std.specs.Prelude.{filter_map}
use Rattle.drawing.specs.Shown.{shown}
use Rattle.renewal.specs.Drawn.{picture_in}
use Rattle.renewal.proofs.drawings.drawn_of.Given as goal

-- what the objects so far draw
abbrev pub invariant-loop-name : goal.invariant-loop-name
invariant-loop-name l = l.list.items ≡ filter_map (λ name. picture_in (shown l.room.room.entries name)) (take l.name-index l.names)
