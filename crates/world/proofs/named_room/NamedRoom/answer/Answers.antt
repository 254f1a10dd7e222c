use Rattle.std.proofs.Common.{ℕ, Option, string_bytes, sym, ap, subst, ◌∙◌}
use Rattle.std.proofs.lemmas.Result.{on_err_weaker}
use Rattle.room_core.specs.Room.{Room, with_entry}
use Rattle.room_core.specs.Answers.{Outcome}
use Rattle.room_core.specs.steps.Plans.{outcome, entry_added}
use Rattle.room_core.specs.State.{DrawingState}
use Rattle.notes.specs.Notes.{notes_at}
use Rattle.world.specs.Alone.{move_of, notes_after_move, use_after_move}
use Rattle.world.specs.steps.State.{is_used}
use Rattle.world.specs.steps.Steps.{RepliesTo}
use Rattle.world.proofs.AnswerRanges.{InRange, sound_room, answer_in_range, in_range_after, moved_in_range}
use Rattle.world.proofs.named_room.NamedRoom.answer.Goals as goal

pub put_in_place-requires-clause-range : goal.put_in_place-requires-clause-range
put_in_place-requires-clause-range c =
    let room = c.self.inside.state.room in
    let sound = sound_room room c.limits-limits.result c.limits-limits.ensures c.joins-joins.ensures.range c.entries-entries.ensures.range c.entries-record.ensures.legal c.self.invariant in
    (subst InRange (sym c.in_ok-planned.ensures.0.0) (answer_in_range room sound (is_used c.self.inside.in_use) c.args.asker.site c.args.request c.requires)).reply

pub invariant_of-self-2 : goal.invariant_of-self-2
invariant_of-self-2 c =
    let room = c.self.inside.state.room in
    let sound = sound_room room c.limits-limits.result c.limits-limits.ensures c.joins-joins.ensures.range c.entries-entries.ensures.range c.entries-record.ensures.legal c.self.invariant in
    let range : InRange (outcome c.in_ok-planned.planned) = subst InRange (sym c.in_ok-planned.ensures.0.0) (answer_in_range room sound (is_used c.self.inside.in_use) c.args.asker.site c.args.request c.requires) in
    in_range_after c.put_in_place.result room c.plan.new.room.room c.put_in_place.new.room.room (entry_added c.in_ok-planned.planned.addition) sound range.added c.plan.ensures.1 c.put_in_place.ensures.room
    (on_err_weaker c.put_in_place.result (λ kept. ap (λ (state : DrawingState). state.room) kept.0) c.put_in_place.ensures.err)

pub follow-requires : goal.follow-requires
follow-requires c = λ site e.
    let room = c.self.inside.state.room in
    let sound = sound_room room c.limits-limits.result c.limits-limits.ensures c.joins-joins.ensures.range c.entries-entries.ensures.range c.entries-record.ensures.legal c.self.invariant in
    let range : InRange (outcome c.in_ok-planned.planned) = subst InRange (sym c.in_ok-planned.ensures.0.0) (answer_in_range room sound (is_used c.self.inside.in_use) c.args.asker.site c.args.request c.requires) in
    moved_in_range c.in_ok-planned.planned.reply site range.reply (sym (c.move_of-moved.ensures ∙ ap move_of c.reply.ensures) ∙ e)

pub returns-clause-ok : goal.returns-clause-ok
returns-clause-ok c =
    rw (← c.self.view_is)
    (subst (λ (o : Outcome). RepliesTo c.args.asker o.0 (string_bytes c.in_ok-text.text) c.args.seats.now.entries c.put_in_place.new.seats.entries) c.in_ok-planned.ensures.0.0 c.in_ok-text.ensures.ok)

pub returns-clause-room : goal.returns-clause-room
returns-clause-room c =
    rw (← c.self.view_is)
    (c.in_ok-text.ensures.room
    ∙ ap (λ (room : Room). with_entry room (entry_added c.in_ok-planned.planned.addition)) c.plan.ensures.1
    ∙ ap (λ (o : Outcome). with_entry c.self.inside.state.room o.1) c.in_ok-planned.ensures.0.0)

pub returns-clause-in_use : goal.returns-clause-in_use
returns-clause-in_use c =
    let was = c.args.asker.site in
    let in_use = is_used c.self.inside.in_use in
    rw (← c.self.view_is)
    (c.follow.ensures
    ∙ ap (λ (move : Option (Option ℕ)). use_after_move move was in_use) (c.move_of-moved.ensures ∙ ap move_of c.reply.ensures)
    ∙ ap (λ (o : Outcome). use_after_move (move_of o.0) was in_use) c.in_ok-planned.ensures.0.0)

pub returns-clause-notes : goal.returns-clause-notes
returns-clause-notes c =
    let was = c.args.asker.site in
    let had = notes_at c.self.inside.notes in
    rw (← c.self.view_is)
    (c.remove_note.ensures
    ∙ ap (λ (move : Option (Option ℕ)). notes_after_move move was had) (c.move_of-moved.ensures ∙ ap move_of c.reply.ensures)
    ∙ ap (λ (o : Outcome). notes_after_move (move_of o.0) was had) c.in_ok-planned.ensures.0.0)
