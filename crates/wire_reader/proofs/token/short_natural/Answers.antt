use Rattle.std.proofs.Common.{◌+◌, ◌*◌, get_or, subst, sym, arith}
use Rattle.wire_reader.proofs.Digits.{DigitsRead, none_read, digit_more, room_for_digit}
use Rattle.std.proofs.lemmas.Str.Parse.{digit_from_value}
use Rattle.wire_reader.proofs.token.short_natural.Goals as goal

pub loop-digit-init : goal.loop-digit-init
loop-digit-init c = none_read c.args.digits.now

pub overflow_mul-number : goal.overflow_mul-number
overflow_mul-number c =
    let room = room_for_digit c.args.digits.now c.loop-digit.number c.loop-digit.digit-index c.loop-digit.invariant (omega arith) in
    omega (arith, room)

pub overflow_add-number : goal.overflow_add-number
overflow_add-number c =
    let room = room_for_digit c.args.digits.now c.loop-digit.number c.loop-digit.digit-index c.loop-digit.invariant (omega arith) in
    let digit = digit_from_value (get_or c.args.digits.now c.loop-digit.digit-index 0) c.if-not-is_ascii_digit.ensures.bound in
    let high = digit.1 in
    let value = c.from.ensures in
    omega (arith, room, high, value)

pub loop-digit-preserved : goal.loop-digit-preserved
loop-digit-preserved c =
    let digit = digit_from_value _ c.if-not-is_ascii_digit.ensures.bound in
    subst (λ d. DigitsRead c.args.digits.now (c.loop-digit.number * 10 + d) (c.loop-digit.digit-index + 1)) (sym c.from.ensures)
    (digit_more c.args.digits.now c.loop-digit.number c.loop-digit.digit-index c.loop-digit.invariant c.loop-digit-test.true digit)
