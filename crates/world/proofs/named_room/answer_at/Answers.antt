use Rattle.std.proofs.lemmas.Result.{on_ok_weaker}
use Rattle.world.proofs.Places.{uses_after, notes_after_answer}
use Rattle.world.proofs.named_room.answer_at.Goals as goal

pub returns-clause-uses : goal.returns-clause-uses
returns-clause-uses c =
    on_ok_weaker c.answer.result (uses_after c.args.rooms.now.items c.args.asker.place c.index_mut.result.now c.answer.new.self c.args.asker.site c.args.request c.requires.place c.index_mut.ensures.value)
    c.answer.ensures.in_use

pub returns-clause-notes : goal.returns-clause-notes
returns-clause-notes c =
    on_ok_weaker c.answer.result (notes_after_answer c.args.rooms.now.items c.args.asker.place c.index_mut.result.now c.answer.new.self c.args.asker.site c.args.request c.requires.place c.index_mut.ensures.value)
    c.answer.ensures.notes
