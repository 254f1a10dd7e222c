-- The texts of replies.
use Rattle.std.proofs.Common.{◌≡◌, ℕ, List, Some}
use Rattle.std.specs.Prelude.{◌↔◌}
use Rattle.wire.specs.declared.reply.Reply.{Reply}
use Rattle.wire.specs.Form.{IsReplyText}
use Rattle.wire_reader.specs.steps.Reads.{reply_read}
use Rattle.wire_reader.proofs.Replies.{reads_replies}
use Rattle.wire_reader.proofs.ByForm.{texts_by_form, one_value}

pub replies_by_form : (bytes : List ℕ) (r : Reply) → (reply_read bytes ≡ Some r) ↔ IsReplyText bytes r
unfolding reply_read
replies_by_form bytes r = texts_by_form reads_replies bytes r

-- bytes are a text of one reply at most
pub one_reply : (bytes : List ℕ) (p q : Reply) → IsReplyText bytes p → IsReplyText bytes q → p ≡ q
one_reply = one_value reads_replies
