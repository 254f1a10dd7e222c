use Rattle.std.proofs.Common.{◌≡◌, drop, []}
use Rattle.conflict_rows.specs.steps.Rows.{with_rows}
use Rattle.conflict_rows.proofs.joins.union_of_rows.Given as goal

-- what is joined so far with the rows to come is what all rows make
abbrev pub invariant-loop-place : goal.invariant-loop-place
invariant-loop-place l = with_rows l.scope l.rows l.joined (drop l.place-index l.places) ≡ with_rows l.scope l.rows [] l.places
