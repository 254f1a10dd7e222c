use Rattle.std.proofs.Common.{map, subst, ap, ◌∙◌}
use Rattle.wire_reader.specs.steps.Reading.{all_in}
use Rattle.wire_reader.specs.steps.Streams.{rest_in, fronted, Takes}
use Rattle.wire_reader.proofs.Tokens.{no_front}
use Rattle.wire_reader.proofs.part.others_of.Goals as goal

pub returns : goal.returns
returns g c n h =
    let read = rest_in (all_in g.P.Part.read_in) n c.args.reader.now in
    let all = ap (λ xs. fronted (map g.P.Part.seen xs) read) c.new.ensures.items ∙ no_front read in
    subst (λ o. Takes (λ parts. map g.P.Part.seen parts.items) c.rest_of.result o c.rest_of.new.reader) all (c.rest_of.ensures n h)
