use Rattle.std.proofs.Common.{◌∙◌, ap, arith, length}
use Rattle.std.specs.Fmt.{decimal}
use Rattle.wire.proofs.Growing.{len_of_pair}
use Rattle.wire.proofs.Numbers.{short}
use Rattle.wire.proofs.write.names.len_of.Goals as goal

pub overflow_add-result : goal.overflow_add-result
overflow_add-result c =
    let few = short c.site.result (omega (arith, c.site.type_inv)) in
    let first = c.count_digits.ensures in
    omega (arith, few, first)

pub overflow_add-result-2 : goal.overflow_add-result-2
overflow_add-result-2 c =
    let few = short c.site.result (omega (arith, c.site.type_inv)) in
    let few_more = short c.seq.result (omega (arith, c.seq.type_inv)) in
    let first = c.count_digits.ensures in
    let second = c.count_digits-2.ensures in
    omega (arith, few, few_more, first, second)

pub returns : goal.returns
returns c =
    let first = c.count_digits.ensures ∙ ap (λ n. length (decimal n)) c.site.ensures.value in
    let second = c.count_digits-2.ensures ∙ ap (λ n. length (decimal n)) c.seq.ensures.value in
    let whole = len_of_pair c.args.name.0 c.args.name.1 in
    omega (arith, first, second, whole)
