use Rattle.std.proofs.Common.{◌≡◌, [], drop}
use Rattle.rules.specs.Bodies.{are_at_odds}
use Rattle.places.specs.steps.PlaceSet.{with_those}
use Rattle.places.specs.steps.Changes.{at}
use Rattle.conflict_rows.proofs.conflict_rows.ConflictRows.those_at_odds.Given as goal

-- the places so far with those to come are all
abbrev pub invariant-loop-place : goal.invariant-loop-place
invariant-loop-place l =
    with_those (λ place. are_at_odds l.op.body (at l.self.ops place).body) l.all (drop l.place-index l.places) ≡ with_those (λ place. are_at_odds l.op.body (at l.self.ops place).body) [] l.places
