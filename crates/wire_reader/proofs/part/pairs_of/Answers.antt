use Rattle.std.proofs.Common.{◌≡◌, ◌-◌, ◌<◌, Some, refl, arith}
use Rattle.json.specs.Json.{after_end_array}
use Rattle.rules.specs.AttrLists.{pairs_fault}
use Rattle.wire_reader.specs.steps.Reading.{attr_in, pairs_in}
use Rattle.wire_reader.proofs.Pairs.{no_pairs}
use Rattle.wire_reader.proofs.Tokens.{passing_steps, all_steps, all_next, all_over, failed, passed}
use Rattle.wire_reader.proofs.part.pairs_of.Goals as goal

pub returns-in_err-open_list : goal.returns-in_err-open_list
unfolding pairs_in
returns-in_err-open_list c n h =
    let deep : 0 < n = omega arith in
    failed (λ x. x) c.from_residual.result _ _ _ _ c.from_residual.ensures.1 c.in_err-open_list.ensures (λ none. rw (passing_steps, all_steps _ n _ deep, none) refl)

pub returns-in_err-key : goal.returns-in_err-key
unfolding pairs_in
returns-in_err-key c n h =
    let deep : 0 < n = omega arith in
    failed (λ x. x) c.from_residual-in_err-key.result _ _ _ _ c.from_residual-in_err-key.ensures.1 (c.in_err-key.ensures (n - 1) (omega arith))
    (λ none. rw (passing_steps, all_steps _ n _ deep, c.in_ok-open_list.ensures) (no_pairs (n - 1) _ none))

pub returns-then-take_end_array : goal.returns-then-take_end_array
unfolding pairs_in pairs_fault
returns-then-take_end_array c n h =
    let deep : 0 < n = omega arith in
    let over : after_end_array c.read.new.reader ≡ Some c.take_end_array.new.self = grind arith in
    let first = all_next attr_in (n - 1) c.open_list.new.reader _ _ (c.in_ok-key.ensures (n - 1) (omega arith)) in
    rw (passing_steps, all_steps _ n _ deep, c.in_ok-open_list.ensures, first, all_over attr_in (n - 1) _ _ over, c.one.ensures) refl

pub returns-in_err-pairs : goal.returns-in_err-pairs
unfolding pairs_in
returns-in_err-pairs c n h =
    let deep : 0 < n = omega arith in
    let going : c.take_end_array.new.self ≡ c.read.new.reader = grind arith in
    let first = all_next attr_in (n - 1) c.open_list.new.reader _ _ (c.in_ok-key.ensures (n - 1) (omega arith)) in
    failed (λ x. x) c.from_residual-in_err-pairs.result _ _ _ _ c.from_residual-in_err-pairs.ensures.1 (c.in_err-pairs.ensures (n - 1) (omega arith))
    (λ none. rw (passing_steps, all_steps _ n _ deep, c.in_ok-open_list.ensures, first, ← going, none) refl)

pub returns : goal.returns
unfolding pairs_in
returns c n h =
    let deep : 0 < n = omega arith in
    let going : c.take_end_array.new.self ≡ c.read.new.reader = grind arith in
    let first = all_next attr_in (n - 1) c.open_list.new.reader _ _ (c.in_ok-key.ensures (n - 1) (omega arith)) in
    rw (passing_steps, all_steps _ n _ deep, c.in_ok-open_list.ensures, first, ← going, c.in_ok-pairs.ensures (n - 1) (omega arith)) (passed (λ x. x) c.pairs_with.result _ _ c.pairs_with.ensures)
