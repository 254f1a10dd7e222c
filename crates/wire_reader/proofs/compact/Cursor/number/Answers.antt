use Rattle.wire_reader.proofs.Scanned.{first_digit, next_digit}
use Rattle.wire_reader.proofs.compact.Cursor.number.Goals as goal

pub loop-number-init : goal.loop-number-init
loop-number-init c = first_digit c.in-Some.number _ _ c.in-Some.ensures.0 c.in-Some.ensures.1

pub loop-number-preserved : goal.loop-number-preserved
loop-number-preserved c =
    let digit = c.in-Some-digit.ensures in
    next_digit c.loop-number.number c.in-Some-digit.digit _ _ _ c.loop-number-test.true c.if-number-le-MAX_SHORTER.true digit.0 c.loop-number.invariant digit.1
