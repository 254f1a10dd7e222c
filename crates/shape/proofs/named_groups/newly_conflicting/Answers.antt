use Rattle.std.proofs.Common.{◌∙◌, not, sym}
use Rattle.std.specs.Prelude.{filter}
use Rattle.places.specs.steps.PlaceSet.{has}
use Rattle.shape.proofs.Stays.{none_outside}
use Rattle.shape.proofs.named_groups.newly_conflicting.Goals as goal

pub returns-then-is_subset : goal.returns-then-is_subset
returns-then-is_subset c =
    c.empty.ensures
    ∙ none_outside c.in_conflict-conflicting.result.now c.in_conflict.result.now (sym c.is_subset.ensures ∙ c.if-is_subset.true)
    ∙ (λ i. filter (λ place. not (has (c.in_conflict.ensures i) place)) (c.in_conflict-conflicting.ensures i))
