use Rattle.std.proofs.Common.{◌≡◌, take}
use Rattle.std.specs.List.{list_all}
use Rattle.wire.specs.steps.Quoting.{is_plain_byte}
use Rattle.wire_reader.proofs.compact.are_plain.Given as goal

abbrev pub invariant-loop-byte : goal.invariant-loop-byte
invariant-loop-byte l = l.are_plain ≡ list_all is_plain_byte (take l.byte-index l.bytes)
