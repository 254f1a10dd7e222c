use Rattle.std.proofs.Common.{◌≡◌, ◌-◌, ◌+◌, ◌∷◌, ◌++◌, ap, ◌∙◌, drop, arith}
use Rattle.std.specs.Fmt.{decimal}
use Rattle.std.proofs.lemmas.List.{drop-set}
use Rattle.wire.proofs.Numbers.{short}
use Rattle.wire.proofs.write.number.put_before.Goals as goal

pub write_digits-first-requires : goal.write_digits-first-requires
write_digits-first-requires c =
    (omega (arith, short c.from.result (omega (arith, c.from.ensures, c.ranges.number)), c.requires.room), c.requires.within)

pub overflow_sub-bytes : goal.overflow_sub-bytes
overflow_sub-bytes c =
    omega (arith, short c.from.result (omega (arith, c.from.ensures, c.ranges.number)))

pub overflow_sub-result : goal.overflow_sub-result
overflow_sub-result c =
    omega (arith, short c.from.result (omega (arith, c.from.ensures, c.ranges.number)))

pub returns-clause-start : goal.returns-clause-start
returns-clause-start c =
    omega (arith, short c.from.result (omega (arith, c.from.ensures, c.ranges.number)))

pub returns-clause-written : goal.returns-clause-written
returns-clause-written c =
    let w = c.write_digits-first in
    let place = w.result - 1 in
    let few = short c.from.result (omega (arith, c.from.ensures, c.ranges.number)) in
    let next : place + 1 ≡ w.result = omega (arith, few) in
    drop-set w.new.buf place c.args.byte (omega (arith, few))
    ∙ ap (λ n. c.args.byte ∷ drop n w.new.buf) next
    ∙ ap (λ s. c.args.byte ∷ s) (w.ensures.written ∙ ap (λ n. decimal n ++ drop c.args.end c.args.bytes.now) c.from.ensures)
