use Rattle.places.specs.steps.Words.{rest_word}
use Rattle.places.proofs.WordPlaces.{MadeBelow}
use Rattle.places.proofs.words.difference.Given as goal

abbrev pub invariant-loop-at : goal.invariant-loop-at
invariant-loop-at l = MadeBelow (rest_word l.first l.second) l.first l.others.items l.len l.at
