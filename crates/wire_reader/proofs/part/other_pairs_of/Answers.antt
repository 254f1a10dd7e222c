use Rattle.std.proofs.Common.{List, ◌∷◌, [], ◌++◌, map, subst, ap, ◌∙◌}
use Rattle.rules.specs.AttrLists.{Attr}
use Rattle.wire_reader.specs.steps.Reading.{all_in, attr_in}
use Rattle.wire_reader.specs.steps.Streams.{rest_in, fronted, Takes}
use Rattle.wire_reader.proofs.Maps.{map_same}
use Rattle.wire_reader.proofs.Tokens.{seen_same}
use Rattle.wire_reader.proofs.part.other_pairs_of.Goals as goal

pub returns : goal.returns
returns c n h =
    let read = rest_in (all_in attr_in) n c.args.reader.now in
    let pushed = c.in_ok-push.ensures.items ∙ ap (λ xs. xs ++ c.args.first ∷ []) c.new-front.ensures.items in
    let front = map_same c.push.new.self.items ∙ pushed in
    seen_same (λ parts. map (λ (attr : Attr). attr) parts.items) (λ parts. parts.items) (λ parts. map_same parts.items) c.rest_of.result _ _
    (subst (λ (xs : List Attr). Takes (λ parts. map (λ (attr : Attr). attr) parts.items) c.rest_of.result (fronted xs read) c.rest_of.new.reader) front (c.rest_of.ensures n h))
