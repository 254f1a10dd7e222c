use Rattle.places.proofs.WordPlaces.{NoRestFrom}
use Rattle.places.proofs.words.rest_len.Given as goal

abbrev pub invariant-loop-len : goal.invariant-loop-len
invariant-loop-len l = NoRestFrom l.first l.second l.len

abbrev pub decreases-loop-len : goal.decreases-loop-len
decreases-loop-len l = l.len
