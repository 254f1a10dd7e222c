use Rattle.std.proofs.Common.{◌≡◌, ◌∙◌, sym, ap, not, map, true, false, subst}
use Rattle.std.specs.Arc.{arc_value}
use Rattle.wire.specs.steps.Equality.{same_reply}
use Rattle.std.specs.Prelude.{IsTrue, slice_get, ◌↔◌}
use Rattle.room_core.specs.steps.Plans.{outcome, entry_added}
use Rattle.wire.specs.Replies.{at_of}
use Rattle.history_check.proofs.Told.{compared, not_given, given_alone, given_with}
use Rattle.history_check.proofs.line_fault.is_given.Goals as goal

pub returns-then-ne : goal.returns-then-ne
returns-then-ne c =
    let differ : same_reply c.args.planned.now.reply c.args.line.now.reply ≡ false = compared _ _ _ c.ne.result c.reply.ensures c.ne.ensures ∙ ap not c.if-ne.true in
    not_given (map arc_value c.args.entries.now) (outcome c.args.planned.now) c.args.line.now differ

pub returns-then-not-adds : goal.returns-then-not-adds
returns-then-not-adds c =
    let same : same_reply c.args.planned.now.reply c.args.line.now.reply ≡ true = compared _ _ _ c.ne.result c.reply.ensures c.ne.ensures ∙ ap not c.if-ne.false in
    given_alone (map arc_value c.args.entries.now) (outcome c.args.planned.now) c.args.line.now c.adds.result same c.adds.ensures c.if-not-adds.true

pub returns-else-not-adds : goal.returns-else-not-adds
returns-else-not-adds c =
    let r = map arc_value c.args.entries.now in
    let same : same_reply c.args.planned.now.reply c.args.line.now.reply ≡ true = compared _ _ _ c.ne.result c.reply.ensures c.ne.ensures ∙ ap not c.if-ne.false in
    let stands : IsTrue c.has_at.result ↔ (slice_get r (at_of c.args.line.now.reply) ≡ entry_added c.args.planned.now.addition) =
    subst (λ place. IsTrue c.has_at.result ↔ (slice_get r place ≡ entry_added c.args.planned.now.addition)) c.at-place.ensures
    (subst (λ entry. IsTrue c.has_at.result ↔ (slice_get r c.at-place.result ≡ entry)) c.entry.ensures c.has_at.ensures) in
    given_with r (outcome c.args.planned.now) c.args.line.now c.has_at.result same (sym c.adds.ensures ∙ c.if-not-adds.false) stands
