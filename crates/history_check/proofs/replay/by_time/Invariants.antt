use Rattle.std.proofs.Common.{◌≡◌, take}
use Rattle.history_check.specs.steps.Replays.{timed_from}
use Rattle.history_check.proofs.replay.by_time.Given as goal

abbrev pub invariant-loop-place : goal.invariant-loop-place
invariant-loop-place l = l.order.items ≡ timed_from 0 (take l.place l.lines)
