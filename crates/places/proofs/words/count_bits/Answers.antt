use Rattle.std.proofs.Common.{arith, rules, get_or}
use Rattle.std.proofs.lemmas.Nat.{ones-le}
use Rattle.places.proofs.Counted.{count_more, count_places_in}
use Rattle.places.proofs.words.count_bits.Goals as goal

pub loop-word-preserved : goal.loop-word-preserved
loop-word-preserved c = record {
  counted = count_more c.args.words.now c.loop-word.word-index c.loop-word.count c.loop-word.invariant.counted (search rules);
  few = (let f = c.loop-word.invariant.few in let o = ones-le 64 (get_or c.args.words.now c.loop-word.word-index 0) (search rules) in omega arith);
}

pub returns : goal.returns
returns c = count_places_in c.args.words.now c.loop-word.word-index c.loop-word.count (omega arith) c.loop-word.invariant.counted
