use Rattle.wire_reader.proofs.ReplyTexts as replies
use Rattle.wire_reader.proofs.laws.replies_by_form.Goals as goal

pub returns : goal.returns
returns c = replies.replies_by_form
