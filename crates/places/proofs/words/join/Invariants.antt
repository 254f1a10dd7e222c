use Rattle.places.proofs.WordPlaces.{JoinedBelow}
use Rattle.places.proofs.words.join.Given as goal

abbrev pub invariant-loop-at : goal.invariant-loop-at
invariant-loop-at l = JoinedBelow l.fn.words.items l.others l.words.items l.at
