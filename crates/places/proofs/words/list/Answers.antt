use Rattle.std.proofs.Common.{arith, rules}
use Rattle.places.proofs.Counted.{word_begun, word_done, next_smaller, place_pushed, all_places_in}
use Rattle.places.proofs.words.list.Goals as goal

pub loop-left-init : goal.loop-left-init
loop-left-init c = word_begun c.args.words.now c.loop-at.at c.loop-at.list.items c.loop-at.invariant

pub loop-left-smaller : goal.loop-left-smaller
loop-left-smaller c = next_smaller c.loop-left.left (omega arith) (search rules)

pub loop-left-preserved : goal.loop-left-preserved
loop-left-preserved c = place_pushed c.loop-at.at c.loop-left.left c.loop-left.list.items c.push.new.self.items _ (omega arith) (search rules) c.in_ok-push.ensures.items c.loop-left.invariant

pub loop-at-preserved : goal.loop-at-preserved
loop-at-preserved c = word_done c.loop-at.at c.loop-left.left c.loop-left.list.items _ c.loop-left-test.false c.loop-left.invariant

pub returns : goal.returns
returns c = all_places_in c.args.words.now c.loop-at.at c.loop-at.list.items (omega arith) c.loop-at.invariant
