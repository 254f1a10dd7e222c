use Rattle.std.proofs.Common.{◌≡◌, ◌≤◌, false, leb, length, sym, ap, subst, ◌∙◌}
use Rattle.rules.specs.Records.{has_ended}
use Rattle.drawing.specs.steps.State.{DrawingState}
use Rattle.room_core.specs.steps.Plans.{entry_added}
use Rattle.room_core.proofs.OutOfRange.{ended, full, not_full}
use Rattle.room_core.proofs.room.RoomState.refuse_out_of_range.Goals as goal

pub returns-then-has_ended-clause-planned : goal.returns-then-has_ended-clause-planned
returns-then-has_ended-clause-planned c op reply named =
    (λ i. (c.refuse.ensures.reply i, entry_added (c.refuse.ensures.addition i)))
    ∙ sym (ended c.args.self.now.room op reply (sym c.has_ended.ensures ∙ c.if-has_ended.true))

pub returns-then-is_full-clause-planned : goal.returns-then-is_full-clause-planned
returns-then-is_full-clause-planned c op reply named =
    let small = subst (λ (s : DrawingState). s.room.limits.entries ≤ 16384) c.self.view_is c.is_full.ensures.range in
    let going : has_ended c.args.self.now.room.entries ≡ false = sym c.has_ended.ensures ∙ c.if-has_ended.false in
    let is = ap (λ (s : DrawingState). leb s.room.limits.entries (length s.room.entries)) (sym c.self.view_is) ∙ sym c.is_full.ensures.full ∙ c.if-is_full.true in
    (λ i. (c.refuse-then-is_full.ensures.reply i, entry_added (c.refuse-then-is_full.ensures.addition i)))
    ∙ sym (full c.args.self.now.room c.args.site c.args.seq c.requires.joined c.sites-sites.ensures.range small c.requires.out_of_range op named reply going is)

pub returns-else-is_full-clause-planned : goal.returns-else-is_full-clause-planned
returns-else-is_full-clause-planned c op reply named =
    let small = subst (λ (s : DrawingState). s.room.limits.entries ≤ 16384) c.self.view_is c.is_full.ensures.range in
    let going : has_ended c.args.self.now.room.entries ≡ false = sym c.has_ended.ensures ∙ c.if-has_ended.false in
    let is = ap (λ (s : DrawingState). leb s.room.limits.entries (length s.room.entries)) (sym c.self.view_is) ∙ sym c.is_full.ensures.full ∙ c.if-is_full.false in
    (λ i. (c.refuse-else-is_full.ensures.reply i, entry_added (c.refuse-else-is_full.ensures.addition i)))
    ∙ sym (not_full c.args.self.now.room c.args.site c.args.seq c.requires.joined c.sites-sites.ensures.range small c.requires.out_of_range op named reply going is)
