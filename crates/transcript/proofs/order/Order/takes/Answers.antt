use Rattle.std.proofs.Common.{◌≡◌, ℕ, ◌+◌, ◌≤◌, ◌∙◌, Bool, true, false, leb, length, sym, ap, subst, arith, get_or}
use Rattle.std.proofs.lemmas.Bool.Decides.{nat_tests}
use Rattle.std.proofs.lemmas.List.{get_or_read}
use Rattle.base_types.specs.declared.op_name.TheConstants.{MAX_SITE}
use Rattle.wire.specs.Replies.{at_of}
use Rattle.transcript.specs.steps.Tables.{OrderedLines, AreTables}
use Rattle.transcript.proofs.Tables.{site_fits, next_reaches, line_tells}
use Rattle.transcript.proofs.order.Order.takes.Goals as goal
use Rattle.transcript.proofs.order.Order.takes.Goals.{then-at-self, else-at-self, then-adds, else-adds}

below_true : (b : Bool) (n at : ℕ) → b ≡ leb n at → b ≡ true → n ≤ at
below_true b n at is e = let h : leb n at ≡ true = sym is ∙ e in grind (arith, nat_tests)

above_false : (b : Bool) (n at : ℕ) → b ≡ leb n at → b ≡ false → n ≤ at → ⊥
above_false b n at is e low = let h : leb n at ≡ false = sym is ∙ e in grind (arith, nat_tests)

pub returns-after-adds : goal.returns-after-adds
returns-after-adds c =
    let ordered = c.args.self.now in
    let reached = c.self.inside.reached.items in
    let claimed = c.self.inside.claimed.items in
    let line = c.args.line.now in
    let at = c.at-at.result in
    let t : AreTables ordered reached claimed = subst (λ o. AreTables o reached claimed) c.self.view_is c.self.invariant in
    let same : c.self.inside.count ≡ ordered.count = ap (λ (o : OrderedLines). o.count) c.self.view_is in
    let site : line.site ≤ MAX_SITE = site_fits line c.requires in
    let sites : length reached ≡ MAX_SITE + 1 = t.sites in
    let places : length claimed ≡ ordered.count + 1 = t.places in
    elim c.if-at-self.branch [
      | then-at-self v ↦
          let within : at ≤ ordered.count = omega arith in
          let read : v.index.result.now ≡ get_or reached line.site 0 = get_or_read reached line.site v.index.result.now (omega arith) v.index.ensures 0 in
          let low : v.index.result.now ≤ at = below_true _ v.index.result.now at v.value-is c.if-index-at.true in
          let left : get_or reached line.site 0 ≤ at = omega arith in
          elim c.if-adds.branch [
            | then-adds w ↦
                line_tells ordered reached claimed line t c.requires at c.at-at.ensures within left c.adds.result c.if-adds.result c.adds.ensures
                (λ e. w.result-is ∙ get_or_read claimed at w.index-then-adds.result.now (omega arith) w.index-then-adds.ensures false)
                (λ e. let f : c.adds.result ≡ true = w.if-adds.true in absurd (cc))
            | else-adds w ↦
                line_tells ordered reached claimed line t c.requires at c.at-at.ensures within left c.adds.result c.if-adds.result c.adds.ensures
                (λ e. let f : c.adds.result ≡ false = w.if-adds.false in absurd (cc))
                (λ e. w.result-is ∙ e)
          ]
      | else-at-self v ↦ let within : at ≤ c.self.inside.count = below_true _ at c.self.inside.count v.value-is c.if-index-at.true in absurd (omega arith)
    ]

pub returns-else-index-at : goal.returns-else-index-at
returns-else-index-at c =
    let ordered = c.args.self.now in
    let reached = c.self.inside.reached.items in
    let claimed = c.self.inside.claimed.items in
    let line = c.args.line.now in
    let at = c.at-at.result in
    let t : AreTables ordered reached claimed = subst (λ o. AreTables o reached claimed) c.self.view_is c.self.invariant in
    let same : c.self.inside.count ≡ ordered.count = ap (λ (o : OrderedLines). o.count) c.self.view_is in
    let site : line.site ≤ MAX_SITE = site_fits line c.requires in
    let sites : length reached ≡ MAX_SITE + 1 = t.sites in (
      λ e. absurd (cc),
      λ next. elim c.if-at-self.branch [
        | then-at-self v ↦
            let read : v.index.result.now ≡ get_or reached line.site 0 = get_or_read reached line.site v.index.result.now (omega arith) v.index.ensures 0 in
            let left : get_or reached line.site 0 ≤ at_of line.reply = next_reaches ordered reached claimed line t c.requires next in
            absurd (above_false _ v.index.result.now at v.value-is c.if-index-at.false (omega arith))
        | else-at-self v ↦ let within : at_of line.reply ≤ ordered.count = next.within in absurd (omega arith)
      ],
    )
