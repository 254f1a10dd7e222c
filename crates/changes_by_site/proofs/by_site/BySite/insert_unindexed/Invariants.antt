use Rattle.std.proofs.Common.{◌≡◌}
use Rattle.std.specs.Prelude.{filter}
use Rattle.base_types.specs.Vectors.{counts}
use Rattle.places.specs.steps.PlaceSet.{places}
use Rattle.places.specs.steps.Changes.{at}
use Rattle.changes_by_site.proofs.by_site.BySite.insert_unindexed.Given as goal

abbrev pub invariant-loop-place : goal.invariant-loop-place
invariant-loop-place l = l.known ≡ filter (λ place. counts l.seen (at l.ops place).name) (places l.place)
