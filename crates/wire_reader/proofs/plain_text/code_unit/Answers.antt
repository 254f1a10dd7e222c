use Rattle.std.proofs.Common.{arith}
use Rattle.json.specs.Text.{code_unit}
use Rattle.wire_reader.proofs.plain_text.code_unit.Goals as goal

pub returns-then-a-b : goal.returns-then-a-b
unfolding code_unit
returns-then-a-b c = rw (← c.digit_value-a.ensures, ← c.digit_value-b.ensures, ← c.digit_value-c.ensures, ← c.digit_value-d.ensures) (grind arith)

pub returns-else-a-b : goal.returns-else-a-b
unfolding code_unit
returns-else-a-b c = rw (← c.digit_value-a.ensures, ← c.digit_value-b.ensures, ← c.digit_value-c.ensures, ← c.digit_value-d.ensures) (grind arith)
