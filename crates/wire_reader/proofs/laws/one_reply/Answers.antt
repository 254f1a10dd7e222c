use Rattle.wire_reader.proofs.ReplyTexts as replies
use Rattle.wire_reader.proofs.laws.one_reply.Goals as goal

pub returns : goal.returns
returns c = replies.one_reply
