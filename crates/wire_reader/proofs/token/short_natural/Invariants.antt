use Rattle.wire_reader.proofs.Digits.{DigitsRead}
use Rattle.wire_reader.proofs.token.short_natural.Given as goal

abbrev pub invariant-loop-digit : goal.invariant-loop-digit
invariant-loop-digit l = DigitsRead l.digits l.number l.digit-index
