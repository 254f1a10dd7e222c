use Rattle.std.proofs.Common.{map}
use Rattle.std.specs.Arc.{arc_value}
use Rattle.history_check.specs.steps.Replays.{AreByTime}
use Rattle.history_check.proofs.Judged.{HasJudged}
use Rattle.history_check.proofs.findings.find_all.Given as goal

abbrev pub invariant-loop-timed : goal.invariant-loop-timed
invariant-loop-timed l = HasJudged (map arc_value l.entries) l.lines l.timed-items l.timed-index l.findings.items l.room.room × AreByTime l.lines l.timed-items
