use Rattle.wire_reader.proofs.reply.from_of.Goals as goal

pub returns : goal.returns
returns c = c.whole_of.ensures
