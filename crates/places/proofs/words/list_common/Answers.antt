use Rattle.std.proofs.Common.{◌≡◌, ◌+◌, ◌*◌, ◌++◌, length, map, ◌∙◌, subst, arith, rules}
use Rattle.std.specs.Prelude.{filter}
use Rattle.places.specs.steps.PlaceSet.{places}
use Rattle.places.specs.steps.Words.{has_bit}
use Rattle.places.proofs.Counted.{bits_of, word_begun, word_done, next_smaller, place_pushed, all_places_in}
use Rattle.places.proofs.WordPlaces.{common_words, common_at, length-common_words, places_in_both}
use Rattle.places.proofs.words.list_common.Goals as goal

pub loop-at-init : goal.loop-at-init
loop-at-init c = c.clear.ensures.items

pub loop-left-init : goal.loop-left-init
loop-left-init c =
    let first = c.args.first.now in
    let second = c.args.second.now in
    let at = c.loop-at.at in
    subst (λ w. c.loop-at.list.items ++ map (λ i. 64 * at + i) (bits_of w) ≡ filter (has_bit (common_words first second)) (places (64 * (at + 1)))) (common_at first second at)
    (word_begun (common_words first second) at c.loop-at.list.items c.loop-at.invariant)

pub loop-left-smaller : goal.loop-left-smaller
loop-left-smaller c = next_smaller c.loop-left.left (omega arith) (search rules)

pub loop-left-preserved : goal.loop-left-preserved
loop-left-preserved c = place_pushed c.loop-at.at c.loop-left.left c.loop-left.list.items c.push.new.self.items _ (omega arith) (search rules) c.in_ok-push.ensures.items c.loop-left.invariant

pub loop-at-preserved : goal.loop-at-preserved
loop-at-preserved c = word_done c.loop-at.at c.loop-left.left c.loop-left.list.items _ c.loop-left-test.false c.loop-left.invariant

pub returns : goal.returns
returns c =
    let first = c.args.first.now in
    let second = c.args.second.now in
    let all : c.loop-at.at ≡ length (common_words first second) = omega (arith, length-common_words first second) in
    all_places_in (common_words first second) c.loop-at.at c.loop-at.list.items all c.loop-at.invariant
    ∙ places_in_both first second (common_words first second) (common_at first second)
