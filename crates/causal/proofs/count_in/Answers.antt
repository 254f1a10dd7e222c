use Rattle.std.proofs.Common.{ap, sym, ◌∙◌}
use Rattle.std.specs.Option.{option_copied}
use Rattle.base_types.specs.Vectors.{count_of}
use Rattle.causal.specs.steps.Index.{at_number}
use Rattle.rules.proofs.Lists.{In-from_Contains}
use Rattle.rules.proofs.Counted.{count_of_pair}
use Rattle.causal.proofs.Index.{Contains-at_number}
use Rattle.causal.proofs.count_in.Goals as goal

-- a pair of the vector has its site's count
pub returns-in-Some : goal.returns-in-Some
returns-in-Some c =
    let v = c.args.seen.now in
    let pair = c.in-Some.pair.now in
    let found = sym (ap option_copied c.in-Some.is) ∙ c.at_number.ensures ∙ ap (λ pairs. at_number pairs c.args.site) c.pairs.ensures.pairs in
    let member = In-from_Contains pair v (Contains-at_number v c.args.site pair (sym found)) in
    sym (ap (count_of v) (sym c.if-pair-site.true) ∙ count_of_pair v pair c.pairs.ensures.range member)
