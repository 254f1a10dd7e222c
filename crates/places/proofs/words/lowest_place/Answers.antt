use Rattle.std.proofs.Common.{arith, rules}
use Rattle.places.proofs.Counted.{lowest_places_in, none_places_in}
use Rattle.places.proofs.words.lowest_place.Goals as goal

pub returns-then-words-at-ne0 : goal.returns-then-words-at-ne0
returns-then-words-at-ne0 c = lowest_places_in c.args.words.now c.loop-at.at c.loop-at.invariant (omega arith) (search rules)

pub returns : goal.returns
returns c = none_places_in c.args.words.now (λ k l. c.loop-at.invariant k (omega arith))
