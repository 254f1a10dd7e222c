use Rattle.std.proofs.Common.{subst}
use Rattle.wire.specs.Lines.{lines_of}
use Rattle.history_check.specs.declared.verdict.Verdict.TheVariants.{BadRecord}
use Rattle.restore.specs.steps.Readings.{IsReading}
use Rattle.restore.specs.Records.{AreRecord, IsBadRecord}
use Rattle.history_check.proofs.OnlyOne.{holds_exactly, holds_on}
use Rattle.history_check.proofs.verdict.check.Goals as goal

pub returns-in-Bad-clause-holds : goal.returns-in-Bad-clause-holds
returns-in-Bad-clause-holds c =
    let bad : IsBadRecord (lines_of c.args.entries.now) c.in-Bad.number = subst (IsReading (lines_of c.args.entries.now)) c.in-Bad.is c.in_ok-number.ensures in
    holds_exactly c.args.entries.now c.args.transcript.now (BadRecord c.in-Bad.number) bad

pub returns-in-Room-clause-holds : goal.returns-in-Room-clause-holds
returns-in-Room-clause-holds c =
    let r = c.in-Room.room.room.entries in
    let legal : AreRecord (lines_of c.args.entries.now) r = (subst (IsReading (lines_of c.args.entries.now)) c.in-Room.is c.in_ok-number.ensures).0 in
    holds_on c.args.entries.now c.args.transcript.now r _ c.entries.ensures.entries legal c.check_transcript.result c.check_transcript.ensures
