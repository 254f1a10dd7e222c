use Rattle.std.proofs.Common.{◌≡◌, drop}
use Rattle.history_check.specs.steps.Findings.{first_in, first_from}
use Rattle.history_check.proofs.findings.first_of.Given as goal

abbrev pub invariant-loop-place : goal.invariant-loop-place
invariant-loop-place l = first_from l.place (drop l.place l.findings) ≡ first_in l.findings
