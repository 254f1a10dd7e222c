use Rattle.wire.proofs.write.reply.write_notes.Goals as goal

pub returns : goal.returns
returns c = rw c.as_slice.ensures at c.write.ensures
