use Rattle.std.proofs.Common.{◌≡◌, take, drop, bytes_eq}
use Rattle.base_types.specs.Repeats.{repeat_from, first_repeat}
use Rattle.base_types.proofs.room_name.repeated_name.Given as goal

abbrev pub invariant-loop-place : goal.invariant-loop-place
invariant-loop-place l = repeat_from bytes_eq l.place (take l.place l.names) (drop l.place l.names) ≡ first_repeat bytes_eq l.names
