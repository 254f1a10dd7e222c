use Rattle.std.proofs.Common.{◌∙◌, ap}
use Rattle.std.proofs.lemmas.Result.{on_ok_weaker}
use Rattle.wire.specs.Notes.{notes_after}
use Rattle.world.specs.steps.State.{Named}
use Rattle.world.proofs.Places.{names_set, notes_of_read, notes_set, same_rooms, same_uses}
use Rattle.world.proofs.named_room.ask_notes_at.Goals as goal

pub returns-clause-names : goal.returns-clause-names
returns-clause-names c =
    names_set c.args.rooms.now.items c.args.place c.index_mut.result.now c.note.new.self c.index_mut.ensures.value (ap (λ (r : Named). r.name) c.note.ensures.same)

pub returns-clause-rooms : goal.returns-clause-rooms
returns-clause-rooms c =
    same_rooms c.args.rooms.now.items c.args.place c.index_mut.result.now c.note.new.self c.requires c.index_mut.ensures.value (ap (λ (r : Named). r.room) c.note.ensures.same)

pub returns-clause-uses : goal.returns-clause-uses
returns-clause-uses c =
    same_uses c.args.rooms.now.items c.args.place c.index_mut.result.now c.note.new.self c.requires c.index_mut.ensures.value (ap (λ (r : Named). r.in_use) c.note.ensures.same)

pub returns-clause-notes : goal.returns-clause-notes
returns-clause-notes c =
    let rooms = c.args.rooms.now.items in
    let old = c.index_mut.result.now in
    on_ok_weaker c.note.result
    (λ is. notes_set rooms c.args.place c.note.new.self _ (is ∙ ap (notes_after c.args.site c.args.request) (notes_of_read rooms c.args.place old c.requires c.index_mut.ensures.value)))
    c.note.ensures.notes
