use Rattle.wire_reader.specs.steps.Replies.{at_in}
use Rattle.wire_reader.proofs.reply.at_of.Goals as goal

pub returns : goal.returns
unfolding at_in
returns c = c.whole_of.ensures
