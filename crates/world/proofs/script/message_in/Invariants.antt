use Rattle.std.proofs.Common.{◌≡◌, ◌<◌, ◌^◌, drop}
use Rattle.world.specs.steps.Messages.{message_in, number_then}
use Rattle.world.proofs.script.message_in.Given as goal

abbrev pub invariant-loop-place : goal.invariant-loop-place
invariant-loop-place l = record {
  same : number_then l.value (drop l.place l.rest) ≡ message_in l.fn.line;
  small : l.value < 2 ^ 32;
}
