use Rattle.std.proofs.Common.{◌≡◌, ◌≤◌, length}
use Rattle.std.specs.Io.KnownBytes.{Consumes}
use Rattle.command_fault.specs.declared.reading.TheConstants.{PIECE_LEN}
use Rattle.command_fault.proofs.reading.read_up_to.Given as goal

abbrev pub invariant-loop : goal.invariant-loop
invariant-loop g l = record {
  room : length l.piece ≡ PIECE_LEN;
  within : length l.bytes.items ≤ l.limit;
  told : Consumes (g.R.Read.remaining l.fn.input) (g.R.Read.remaining l.input) l.bytes.items;
}
