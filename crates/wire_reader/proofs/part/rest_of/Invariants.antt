use Rattle.std.proofs.Common.{◌≡◌, ℕ, ◌≤◌, length, map}
use Rattle.wire_reader.specs.steps.Reading.{all_in}
use Rattle.wire_reader.specs.steps.Streams.{rest_in, fronted}
use Rattle.wire_reader.proofs.part.rest_of.Given as goal

-- the parts so far, and then the rest, are all of them
abbrev pub invariant-parts : goal.invariant-parts
invariant-parts g l =
    (n : ℕ) → g.P.Part.levels ≤ n
    → fronted (map g.P.Part.seen l.parts.items) (rest_in (all_in g.P.Part.read_in) n l.reader) ≡ fronted (map g.P.Part.seen l.initial.parts.items) (rest_in (all_in g.P.Part.read_in) n l.initial.reader)

abbrev pub decreases-parts : goal.decreases-parts
decreases-parts g l = length l.reader
