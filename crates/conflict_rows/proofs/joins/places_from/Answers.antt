use Rattle.std.proofs.Common.{◌≡◌, ℕ, true, false, arith, rules, of_calls}
use Rattle.std.specs.Prelude.{nat_lt}
use Rattle.std.specs.List.Sorted.{IsPartitionPoint}
use Rattle.std.proofs.lemmas.Bool.{ltb-true}
use Rattle.std.proofs.lemmas.List.{length-drop, take_all}
use Rattle.std.proofs.lemmas.List.Sorted.{IsPartitionedBy-ltb, IsPartitionPoint-from_clause}
use Rattle.conflict_rows.proofs.joins.places_from.Goals as goal

pub returns : goal.returns
returns c =
    let places = c.args.places.now in
    let lowest = c.args.lowest in
    let start = c.partition_point-start.result in
    let point : IsPartitionPoint (λ place. nat_lt place lowest ≡ true) (λ place. nat_lt place lowest ≡ false) places start =
    IsPartitionPoint-from_clause (λ (place : ℕ). nat_lt place lowest) places start c.partition_point-start.ensures.partitioned (IsPartitionedBy-ltb (λ (place : ℕ). place) places lowest c.requires) (λ a r f k. search (rules, of_calls)) in
    (start, take_all _ _ (omega (arith, length-drop start places)), λ k d from below. ltb-true _ _ (point.0 k d from below))
