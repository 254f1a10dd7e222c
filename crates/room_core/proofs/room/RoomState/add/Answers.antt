use Rattle.std.proofs.Common.{ℕ, Bool, ◌+◌, ◌||◌, cond, sym, subst, ap, ◌∙◌}
use Rattle.rules.specs.Records.{has_ended, is_end, is_join, sites}
use Rattle.drawing.specs.Room.{Room}
use Rattle.drawing.specs.steps.State.{DrawingState}
use Rattle.drawing.proofs.Replay.{more}
use Rattle.room_core.specs.steps.Kept.{IsRoom}
use Rattle.room_core.specs.steps.Plans.{IsAdmitted}
use Rattle.room_core.proofs.Replay.{room_with}
use Rattle.room_core.proofs.room.RoomState.add.Goals as goal

pub invariant_of-self : goal.invariant_of-self
invariant_of-self c =
    let room = c.self.inside.drawing.room in
    let e = c.args.addition.entry in
    let admitted = subst (λ (s : DrawingState). IsAdmitted s.room e) (sym c.self.view_is) c.requires.admitted in
    let joined = c.sites_with-joined.ensures ∙ ap (λ (n : ℕ). n + cond (is_join e) 1 0)
    (c.sites.ensures.sites ∙ ap (λ (s : DrawingState). sites s.room.entries) (sym c.self.view_is) ∙ sym c.self.invariant.joins) in
    let ended = c.ended_with-ended.ensures ∙ ap (λ (b : Bool). b || is_end e)
    (c.has_ended.ensures ∙ ap (λ (s : DrawingState). has_ended s.room.entries) (sym c.self.view_is) ∙ sym c.self.invariant.end) in
    subst (λ (r : Room). IsRoom r c.sites_with-joined.result c.ended_with-ended.result) (sym c.commit.ensures)
    (subst (λ (b : Bool). IsRoom (more room e) c.sites_with-joined.result b) (sym ended) (subst (λ (n : ℕ). IsRoom (more room e) n (c.self.inside.has_ended || is_end e)) (sym joined) (room_with room c.self.inside.sites c.self.inside.has_ended c.self.invariant e admitted)))
