use Rattle.std.proofs.Common.{◌≡◌, ◌+◌, ◌/◌, ◌∙◌, ap, arith, length}
use Rattle.std.specs.Fmt.{decimal}
use Rattle.std.proofs.lemmas.Fmt.{decimal_digit, decimal_step, length-decimal-le}
use Rattle.std.proofs.lemmas.List.{length-append}
use Rattle.wire.proofs.write.names.count_digits.Goals as goal

pub overflow_add-count : goal.overflow_add-count
overflow_add-count c =
    let few = length-decimal-le 10 c.args.number (omega arith) (omega (arith, c.ranges.number)) (omega (arith, c.ranges.number)) in
    let all = c.loop-rest.invariant.digits in
    omega (arith, few, all)

pub loop-rest-preserved : goal.loop-rest-preserved
loop-rest-preserved c =
    let rest = c.loop-rest.rest in
    let step : length (decimal rest) ≡ length (decimal (rest / 10)) + 1 =
    ap length (decimal_step rest c.loop-rest-test.true (omega (arith, c.loop-rest.auto.rest-fits))) ∙ length-append (decimal (rest / 10)) _ in
    let all = c.loop-rest.invariant.digits in
    record { digits = omega (arith, step, all); some = omega arith }

pub returns : goal.returns
returns c =
    let last = ap length (decimal_digit c.loop-rest.rest c.loop-rest-test.false) in
    let all = c.loop-rest.invariant.digits in
    omega (arith, last, all)
