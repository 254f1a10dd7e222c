use Rattle.std.proofs.Common.{◌≡◌, ℕ, ◌≤◌, length}
use Rattle.wire_reader.specs.steps.Reading.{all_in, pair_in}
use Rattle.wire_reader.specs.steps.Streams.{rest_in, fronted}
use Rattle.wire_reader.proofs.part.site_pairs_of.Given as goal

-- the pairs so far, and then the rest, are all of them
abbrev pub invariant-pairs : goal.invariant-pairs
invariant-pairs l = (n : ℕ) → 1 ≤ n → fronted l.pairs.items (rest_in (all_in pair_in) n l.reader) ≡ rest_in (all_in pair_in) n l.initial.reader

abbrev pub decreases-pairs : goal.decreases-pairs
decreases-pairs l = length l.reader
