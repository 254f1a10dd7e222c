use Rattle.std.proofs.Common.{◌≡◌, ◌-◌, ◌<◌, length, Some, None, refl, sym, subst, ap, ◌∙◌, append-nil, arith}
use Rattle.json.specs.Json.{after_end_array}
use Rattle.wire_reader.specs.steps.Reading.{all_in, pair_in}
use Rattle.wire_reader.specs.steps.Streams.{next_in, rest_in, fronted}
use Rattle.wire_reader.proofs.Tokens.{all_steps, all_over, all_bad, all_next, part_shortens, fronted_next, no_front, failed}
use Rattle.wire_reader.proofs.part.site_pairs_of.Goals as goal

pub returns-in_err-open_list : goal.returns-in_err-open_list
returns-in_err-open_list c n h =
    let deep : 0 < n = omega arith in
    failed (λ pairs. pairs.items) c.from_residual.result _ _ _ _ c.from_residual.ensures.1 c.in_err-open_list.ensures (λ none. rw (all_steps _ n _ deep, none) refl)

pub returns-in_err-pair : goal.returns-in_err-pair
returns-in_err-pair c n h =
    let l = c.pairs in
    let deep : 0 < n = omega arith in
    let going : (after_end_array l.reader ≡ None) × (c.take_end_array.new.self ≡ l.reader) = grind arith in
    failed (λ pairs. pairs.items) c.from_residual-in_err-pair.result _ _ _ _ c.from_residual-in_err-pair.ensures.1 (c.in_err-pair.ensures (n - 1) (omega arith))
    (λ none. rw (all_steps _ n _ deep, c.in_ok-open_list.ensures) (sym (l.invariant (n - 1) (omega arith))
    ∙ ap (fronted l.pairs.items) (all_bad pair_in (n - 1) l.reader going.0 (ap (next_in pair_in (n - 1)) (sym going.1) ∙ none))))

pub pairs-init : goal.pairs-init
pairs-init c n h = ap (λ xs. fronted xs (rest_in (all_in pair_in) n c.open_list.new.reader)) c.new-pairs.ensures.items ∙ no_front _

pub pairs-smaller : goal.pairs-smaller
pairs-smaller c =
    let l = c.pairs in
    let going : (after_end_array l.reader ≡ None) × (c.take_end_array.new.self ≡ l.reader) = grind arith in
    subst (λ ts. length c.pair_of.new.reader < length ts) going.1 (part_shortens pair_in 1 _ _ _ (c.in_ok-pair.ensures 1 (omega arith)))

pub pairs-preserved : goal.pairs-preserved
pairs-preserved c n h =
    let l = c.pairs in
    let going : (after_end_array l.reader ≡ None) × (c.take_end_array.new.self ≡ l.reader) = grind arith in
    let read = rest_in (all_in pair_in) n c.pair_of.new.reader in
    let next = all_next pair_in n l.reader _ _ (ap (next_in pair_in n) (sym going.1) ∙ c.in_ok-pair.ensures n h) in
    ap (λ xs. fronted xs read) c.in_ok-push.ensures.ok ∙ sym (fronted_next l.pairs.items c.in_ok-pair.pair read) ∙ ap (fronted l.pairs.items) (sym next) ∙ l.invariant n h

pub returns : goal.returns
returns c n h =
    let l = c.pairs in
    let deep : 0 < n = omega arith in
    let over : after_end_array l.reader ≡ Some c.take_end_array.new.self = grind arith in
    rw (all_steps _ n _ deep, c.in_ok-open_list.ensures) (sym (l.invariant (n - 1) (omega arith)) ∙ ap (fronted l.pairs.items) (all_over pair_in (n - 1) l.reader _ over)
    ∙ ap (λ xs. Some (xs, c.take_end_array.new.self)) (append-nil l.pairs.items))
