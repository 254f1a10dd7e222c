use Rattle.std.proofs.Common.{◌≡◌, ◌<◌, ◌+◌, ◌∙◌, ap, false, true, length, take, subst, sym, arith}
use Rattle.std.proofs.Math.ListN.{length-set}
use Rattle.std.specs.Prelude.{slice_index_or, slice_set}
use Rattle.std.specs.List.{list_any}
use Rattle.std.proofs.lemmas.Bool.{cond-true, cond-false}
use Rattle.base_types.proofs.Repeats.{repeat_at}
use Rattle.rules.specs.AttrLists.{same_key}
use Rattle.rules.specs.steps.Marks.{mark_of, HaveMarks}
use Rattle.rules.proofs.Marks.{marks_more, unmarked}
use Rattle.rules.proofs.attrs.repeated_key.Goals as goal
use Rattle.rules.proofs.attrs.repeated_key.Goals.{else-marks-mark-via-then-marks-mark+else-is_repeated, else-marks-mark-via-else-marks-mark}

pub returns-then-is_repeated : goal.returns-then-is_repeated
returns-then-is_repeated c = sym (sym c.loop-place.invariant.0 ∙ repeat_at same_key c.args.pairs.now c.loop-place.place c.index-pairs-place.result (omega arith) c.index-pairs-place.is ∙ cond-true _ _ _ (sym c.is_repeated.ensures ∙ c.if-is_repeated.true))

pub loop-place-preserved : goal.loop-place-preserved
loop-place-preserved c =
    let marks = c.loop-place.marks in
    let place = c.loop-place.place in
    let pair = c.index-pairs-place.result in
    let all = c.args.pairs.now in
    let invariant = c.loop-place.invariant in
    let within : mark_of pair.0 < length marks = (let size = invariant.1 in omega (arith, size)) in
    let new : list_any (λ one. same_key one pair) (take place all) ≡ false = elim c.else-marks-mark.branch [
      | else-marks-mark-via-then-marks-mark+else-is_repeated w ↦ sym w.is_repeated.ensures ∙ w.if-is_repeated.false
      | else-marks-mark-via-else-marks-mark w ↦ unmarked marks (take place all) pair invariant.2 (ap (λ m. slice_index_or marks m false) (sym c.mark_of-mark.ensures) ∙ w.if-marks-mark.false)
    ] in (
      sym (repeat_at same_key all place pair (omega arith) c.index-pairs-place.is ∙ cond-false _ _ _ new) ∙ invariant.0,
      length-set marks c.mark_of-mark.result true ∙ invariant.1,
      subst (λ m. HaveMarks (slice_set marks m true) (take (place + 1) all)) (sym c.mark_of-mark.ensures) (marks_more marks all place pair c.loop-place-test.true c.index-pairs-place.is within invariant.2),
    )
