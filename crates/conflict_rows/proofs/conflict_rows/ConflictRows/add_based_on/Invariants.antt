use Rattle.std.proofs.Common.{◌≡◌, ◌<◌, ℕ, List, length}
use Rattle.std.specs.Prelude.{All, filter}
use Rattle.places.specs.steps.PlaceSet.{places}
use Rattle.places.specs.steps.Changes.{is_conflict_of}
use Rattle.conflict_rows.specs.steps.Rows.{conflicts_below}
use Rattle.conflict_rows.proofs.Direct.{row_below}
use Rattle.conflict_rows.proofs.conflict_rows.ConflictRows.add_based_on.Given as goal

-- where the row was begun with what conflicts with a base, it has what belongs in it below the place
abbrev pub invariant-loop-place : goal.invariant-loop-place
invariant-loop-place l = (based : List ℕ) → All (λ other. other < length l.self.ops) based
    → l.initial.row ≡ filter (conflicts_below (is_conflict_of l.self.ops) based (length l.self.ops)) (places (length l.self.ops))
    → l.row ≡ filter (row_below l.self.ops l.direct based l.place) (places (length l.self.ops))
