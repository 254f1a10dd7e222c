use Rattle.std.proofs.Common.{◌∙◌, sym, subst}
use Rattle.transcript.specs.Order.{IsNext}
use Rattle.transcript.specs.steps.Tables.{OrderedLines}
use Rattle.transcript.proofs.Tables.{tables_claimed, tables_unclaimed}
use Rattle.transcript.proofs.order.Order.take.Goals as goal

pub invariant_of-self-then-adds : goal.invariant_of-self-then-adds
invariant_of-self-then-adds c =
    let next = subst (λ (o : OrderedLines). IsNext o.count o.lines c.args.line) (sym c.self.view_is) c.requires.next in
    let t = tables_claimed (record { count = c.self.inside.count; lines = c.self.inside.lines.items }) c.self.inside.reached.items c.self.inside.claimed.items c.args.line c.self.invariant c.requires.in_form next (sym c.adds-adds.ensures ∙ c.if-adds.true) in
    rw (c.in_ok-push.ensures.items, c.entries_after-after.ensures, c.at-at.ensures) t

pub invariant_of-self-else-adds : goal.invariant_of-self-else-adds
invariant_of-self-else-adds c =
    let next = subst (λ (o : OrderedLines). IsNext o.count o.lines c.args.line) (sym c.self.view_is) c.requires.next in
    let t = tables_unclaimed (record { count = c.self.inside.count; lines = c.self.inside.lines.items }) c.self.inside.reached.items c.self.inside.claimed.items c.args.line c.self.invariant c.requires.in_form next (sym c.adds-adds.ensures ∙ c.if-adds.false) in
    rw (c.in_ok-push.ensures.items, c.entries_after-after.ensures) t
