use Rattle.std.proofs.Common.{◌≡◌, take}
use Rattle.drawing.specs.steps.State.{kinds_of}
use Rattle.drawing.proofs.pages.objects_page.Given as goal

abbrev pub invariant-loop-place : goal.invariant-loop-place
invariant-loop-place l = l.listed.items ≡ take l.place (kinds_of l.rest)
