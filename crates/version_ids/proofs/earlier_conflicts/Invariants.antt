use Rattle.std.proofs.Common.{◌≡◌, [], drop}
use Rattle.version_ids.specs.steps.Scopes.{with_earlier_conflicts}
use Rattle.version_ids.proofs.earlier_conflicts.Given as goal

-- the places so far with those to come are all
abbrev pub invariant-loop-place : goal.invariant-loop-place
invariant-loop-place g l =
    let is_conflict = g.R.Relation.conflicts l.relation in
    with_earlier_conflicts is_conflict l.all (drop l.place-index l.places) ≡ with_earlier_conflicts is_conflict [] l.places
