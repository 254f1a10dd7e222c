use Rattle.std.proofs.Common.{◌+◌, ◌++◌, ◌∷◌, [], Some, length, ap, sym, ◌∙◌, arith}
use Rattle.std.specs.Arc.{arc_value}
use Rattle.std.proofs.lemmas.List.{length-map}
use Rattle.std.proofs.lemmas.List.FromFn.{map-range_with_len_more}
use Rattle.room_lock.specs.steps.Shelves.{whole_part}
use Rattle.room_lock.proofs.restoring.fill_shelf.Goals as goal

pub whole_part-requires-clause-short : goal.whole_part-requires-clause-short
whole_part-requires-clause-short g c =
    let counted = length-map c.entries.result.now arc_value in
    omega (arith, counted, ap length c.entries.ensures.entries, c.requires.short)

pub loop-before-preserved : goal.loop-before-preserved
loop-before-preserved g c =
    let r = c.args.whole.now.entries in
    let opening = c.args.whole.now.opening in
    let before = c.loop-before.before in
    let part = c.whole_part.ensures in
    c.in_ok-push.ensures.items ∙ (λ j. c.loop-before.invariant j ++ Some (part j) ∷ []) ∙ sym (map-range_with_len_more (λ site. Some (whole_part opening r site)) 1 before (before + 1) (omega arith))
