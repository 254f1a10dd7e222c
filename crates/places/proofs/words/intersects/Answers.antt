use Rattle.std.proofs.Common.{arith, rules, length, min, inl, inr}
use Rattle.std.proofs.lemmas.Bool.{cases_lt}
use Rattle.places.proofs.WordPlaces.{intersects_yes, intersects_no, none_common}
use Rattle.places.proofs.words.intersects.Goals as goal

pub returns-then-first-at-ne0 : goal.returns-then-first-at-ne0
returns-then-first-at-ne0 c = intersects_yes c.args.first.now c.args.second.now c.loop-at.at (search rules) c.if-first-at-ne0.true

pub returns : goal.returns
returns c =
    let first = c.args.first.now in
    let second = c.args.second.now in
    intersects_no first second (λ k l. elim (cases_lt k (min (length first) (length second))) [
      | inl b ↦ c.loop-at.invariant k (omega arith)
      | inr g ↦ none_common first second k g
    ])
