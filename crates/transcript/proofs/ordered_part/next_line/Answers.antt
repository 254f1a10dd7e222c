use Rattle.std.proofs.Common.{◌≡◌, Ok, subst}
use Rattle.std.specs.Prelude.{IfSome}
use Rattle.wire_reader.specs.steps.Reading.{Gives}
use Rattle.transcript.specs.steps.Reads.{line_read}
use Rattle.transcript.proofs.LineTexts.{line_fits}
use Rattle.transcript.proofs.ordered_part.next_line.Goals as goal

pub takes-may_come-requires : goal.takes-may_come-requires
takes-may_come-requires c =
    let read = subst (λ found. IfSome found (λ line. c.read_line.result ≡ Ok line)) c.in-Some.is c.in_ok-line.ensures.some in
    line_fits c.args.bytes.now c.in-Some.line (subst (λ r. Gives (λ line. line) r (line_read c.args.bytes.now)) read c.read_line.ensures)
