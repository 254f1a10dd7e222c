use Rattle.std.proofs.Common.{◌≡◌, true, take}
use Rattle.std.specs.List.{list_all}
use Rattle.wire.specs.steps.Quoting.{is_plain_byte}
use Rattle.wire_reader.proofs.compact.plain_len_by_one.Given as goal

abbrev pub invariant-loop-place : goal.invariant-loop-place
invariant-loop-place l = list_all is_plain_byte (take l.place l.bytes) ≡ true
