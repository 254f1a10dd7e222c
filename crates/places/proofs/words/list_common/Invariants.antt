use Rattle.std.proofs.Common.{◌≡◌, ◌+◌, ◌*◌, ◌++◌, map}
use Rattle.std.specs.Prelude.{filter}
use Rattle.places.specs.steps.PlaceSet.{places}
use Rattle.places.specs.steps.Words.{has_bit}
use Rattle.places.proofs.Counted.{bits_of}
use Rattle.places.proofs.WordPlaces.{common_words}
use Rattle.places.proofs.words.list_common.Given as goal

abbrev pub invariant-loop-at : goal.invariant-loop-at
invariant-loop-at l = l.list.items ≡ filter (has_bit (common_words l.first l.second)) (places (64 * l.at))

abbrev pub invariant-loop-left : goal.invariant-loop-left
invariant-loop-left l =
    l.list.items ++ map (λ i. 64 * l.at + i) (bits_of l.left)
    ≡ filter (has_bit (common_words l.first l.second)) (places (64 * (l.at + 1)))

abbrev pub decreases-loop-left : goal.decreases-loop-left
decreases-loop-left l = l.left
