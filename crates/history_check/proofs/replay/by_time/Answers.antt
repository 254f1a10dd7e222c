use Rattle.std.proofs.Common.{◌∙◌, ap, arith, sym, ◌++◌, ◌∷◌, [], subst}
use Rattle.std.proofs.lemmas.List.{take_all}
use Rattle.std.specs.List.Sorted.{IsPermutation}
use Rattle.transcript.specs.declared.line.TranscriptLine.{TranscriptLine}
use Rattle.wire.specs.Replies.{at_of}
use Rattle.history_check.specs.steps.Replays.{timed_from}
use Rattle.history_check.proofs.Timed.{at_place, timed_more, rises_if_sorted}
use Rattle.history_check.proofs.replay.by_time.Goals as goal

pub loop-place-preserved : goal.loop-place-preserved
loop-place-preserved c =
    let at = at_place c.args.lines.now c.loop-place.place c.index-lines-place.result c.loop-place-test.true c.index-lines-place.is in
    let time = c.at.ensures ∙ ap (λ (l : TranscriptLine). at_of l.reply) (sym c.index-lines-place.is) in
    c.in_ok-push.ensures.items ∙ (λ i. c.loop-place.invariant i ++ (time i, c.loop-place.place) ∷ []) ∙ timed_more c.args.lines.now c.loop-place.place c.index-lines-place.result at

pub returns : goal.returns
returns c = record {
  same = subst (λ all. IsPermutation all c.sort.new.self.items) (c.loop-place.invariant ∙ ap (timed_from 0) (take_all c.loop-place.place c.args.lines.now (omega (arith, c.loop-place-test.false)))) c.in_ok-sort.ensures.permutation;
  rises = rises_if_sorted c.sort.new.self.items c.in_ok-sort.ensures.sorted;
}
