use Rattle.std.proofs.Common.{◌≡◌, drop}
use Rattle.json.specs.Lex.{between, lex}
use Rattle.wire_reader.proofs.plain_text.after_space.Given as goal

-- all of it is white space so far
abbrev pub invariant-loop-place : goal.invariant-loop-place
invariant-loop-place l = lex between (drop l.place l.bytes) ≡ lex between l.bytes
