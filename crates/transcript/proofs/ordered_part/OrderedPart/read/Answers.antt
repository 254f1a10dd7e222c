use Rattle.std.proofs.Common.{Option, subst}
use Rattle.wire.specs.Lines.{lines_of}
use Rattle.transcript.specs.declared.line.TranscriptLine.{TranscriptLine}
use Rattle.transcript.specs.steps.Tables.{IsNextIn}
use Rattle.transcript.proofs.LineTexts.{line_fits}
use Rattle.transcript.proofs.SoFar.{so_far_more}
use Rattle.transcript.proofs.ordered_part.OrderedPart.read.Goals as goal

pub take-requires-clause-in_form : goal.take-requires-clause-in_form
take-requires-clause-in_form c =
    let next = subst (λ (o : Option TranscriptLine). IsNextIn c.loop-rest.order c.first_line.result.0.now o) c.in-Some.is c.in_ok-line.ensures in
    line_fits c.first_line.result.0.now c.in-Some.line next.0

pub loop-rest-preserved : goal.loop-rest-preserved
loop-rest-preserved c =
    let bytes = c.first_line.result.0.now in
    let later = lines_of c.first_line.result.1.now in
    let next = subst (λ (o : Option TranscriptLine). IsNextIn c.loop-rest.order bytes o) c.in-Some.is c.in_ok-line.ensures in
    let left = rw c.first_line.ensures.lines at c.loop-rest.invariant in
    so_far_more c.args.count (lines_of c.args.transcript.now) c.loop-rest.order c.take.new.self bytes later c.in-Some.line left next.0 c.take.ensures.count c.in_ok-take.ensures.lines
