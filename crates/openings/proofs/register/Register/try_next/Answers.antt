use Rattle.std.proofs.Common.{sym, ◌∙◌, ap}
use Rattle.openings.proofs.Entering.{enters_moves}
use Rattle.openings.proofs.register.Register.try_next.Goals as goal

pub compare_exchange-found-requires : goal.compare_exchange-found-requires
compare_exchange-found-requires g c =
    let counter = c.self.invariant.0 in
    let offer = c.plain-offer.ensures in
    let pen = c.no_pen-pen.ensures in
    let book = ap (λ s. s.book) c.again-seen.ensures ∙ c.self.invariant.1 ∙ sym (ap (λ w. w.book) counter) in (
      ap (λ w. w.tracked) counter,
      book,
      pen.0 ∙ book,
      offer.0,
      rw (ap (λ w. w.key) counter, pen.1, offer.1, offer.3, ap (λ s. s.log) c.again-seen.ensures) (enters_moves c.self.inside.seen.log c.args.room.now c.self.inside.count (sym c.self.invariant.2)),
    )
