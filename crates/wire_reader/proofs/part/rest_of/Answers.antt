use Rattle.std.proofs.Common.{◌≡◌, ◌≤◌, ◌<◌, length, map, Some, None, sym, subst, ap, ◌∙◌, append-nil, arith}
use Rattle.json.specs.Json.{after_end_array}
use Rattle.wire_reader.specs.steps.Reading.{all_in}
use Rattle.wire_reader.specs.steps.Streams.{next_in, rest_in, fronted}
use Rattle.wire_reader.proofs.Tokens.{all_over, all_bad, all_next, part_shortens, fronted_next, map_last, failed}
use Rattle.wire_reader.proofs.part.rest_of.Goals as goal

pub returns-in_err-part : goal.returns-in_err-part
returns-in_err-part g c n h =
    let l = c.parts in
    let going : (after_end_array l.reader ≡ None) × (c.take_end_array.new.self ≡ l.reader) = grind arith in
    failed (λ parts. map g.P.Part.seen parts.items) c.from_residual.result _ _ _ _ c.from_residual.ensures.1 (c.in_err-part.ensures n h)
    (λ none. sym (l.invariant n h)
    ∙ ap (fronted (map g.P.Part.seen l.parts.items)) (all_bad g.P.Part.read_in n l.reader going.0 (ap (next_in g.P.Part.read_in n) (sym going.1) ∙ none)))

pub parts-smaller : goal.parts-smaller
parts-smaller g c =
    let l = c.parts in
    let going : (after_end_array l.reader ≡ None) × (c.take_end_array.new.self ≡ l.reader) = grind arith in
    let enough : g.P.Part.levels ≤ g.P.Part.levels = omega arith in
    subst (λ ts. length c.read.new.reader < length ts) going.1 (part_shortens g.P.Part.read_in g.P.Part.levels _ _ _ (c.in_ok-part.ensures g.P.Part.levels enough))

pub parts-preserved : goal.parts-preserved
parts-preserved g c n h =
    let l = c.parts in
    let going : (after_end_array l.reader ≡ None) × (c.take_end_array.new.self ≡ l.reader) = grind arith in
    let part = c.in_ok-part.part in
    let read = rest_in (all_in g.P.Part.read_in) n c.read.new.reader in
    let next = all_next g.P.Part.read_in n l.reader _ _ (ap (next_in g.P.Part.read_in n) (sym going.1) ∙ c.in_ok-part.ensures n h) in
    ap (λ xs. fronted (map g.P.Part.seen xs) read) c.in_ok-push.ensures.items ∙ ap (λ ys. fronted ys read) (map_last g.P.Part.seen l.parts.items part)
    ∙ sym (fronted_next (map g.P.Part.seen l.parts.items) (g.P.Part.seen part) read) ∙ ap (fronted (map g.P.Part.seen l.parts.items)) (sym next) ∙ l.invariant n h

pub returns : goal.returns
returns g c n h =
    let l = c.parts in
    let over : after_end_array l.reader ≡ Some c.take_end_array.new.self = grind arith in
    sym (l.invariant n h) ∙ ap (fronted (map g.P.Part.seen l.parts.items)) (all_over g.P.Part.read_in n l.reader _ over)
    ∙ ap (λ xs. Some (xs, c.take_end_array.new.self)) (append-nil (map g.P.Part.seen l.parts.items))
