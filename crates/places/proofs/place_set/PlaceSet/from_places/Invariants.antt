use Rattle.std.proofs.Common.{◌≡◌, drop}
use Rattle.places.specs.steps.PlaceSet.{set_of, with_places}
use Rattle.places.proofs.place_set.PlaceSet.from_places.Given as goal

-- the set so far with the places to come is the whole set
abbrev pub invariant-loop-place : goal.invariant-loop-place
invariant-loop-place l = with_places l.members (drop l.place-index l.places) ≡ set_of l.places
