use Rattle.std.proofs.Common.{arith}
use Rattle.places.specs.steps.Words.{rest_word}
use Rattle.places.proofs.WordPlaces.{made_all, all_rest_past, places_in_minus}
use Rattle.places.proofs.words.difference.Goals as goal

pub returns-clause-others : goal.returns-clause-others
returns-clause-others c =
    let first = c.args.first.now in
    let second = c.args.second.now in
    places_in_minus first second c.loop-at.others.items
    (made_all (rest_word first second) first c.loop-at.others.items c.rest_len-len.result c.loop-at.at c.loop-at.invariant (λ k l b. all_rest_past first second k (omega arith)) c.rest_len-len.ensures.none)
