use Rattle.std.proofs.Common.{◌≡◌, [], drop}
use Rattle.places.specs.steps.PlaceSet.{with_those}
use Rattle.version_ids.specs.steps.Scopes.{is_conflicting}
use Rattle.version_ids.proofs.those_conflicting.Given as goal

-- the places so far with those to come are all
abbrev pub invariant-loop-place : goal.invariant-loop-place
invariant-loop-place g l =
    with_those (is_conflicting (g.R.Relation.conflicts l.relation) l.scope l.earlier) l.conflicting (drop l.place-index l.places)
    ≡ with_those (is_conflicting (g.R.Relation.conflicts l.relation) l.scope l.earlier) [] l.places
