-- What is written of a reply in range is read as that reply.
use Rattle.std.proofs.Common.{◌≡◌, ℕ, List, Some, Result, Ok, Err, IfOk}
use Rattle.wire.specs.declared.request.Request.{Request}
use Rattle.wire.specs.declared.reply.Reply.{Reply}
use Rattle.wire.specs.Form.{IsRequest, IsReply, IsReplyText}
use Rattle.wire.specs.Texts.{reply_text}
use Rattle.wire_reader.specs.steps.Reads.{request_read, reply_read}
use Rattle.world.specs.steps.Steps.{IsTextFor}
use Rattle.wire_reader.proofs.RequestTexts.{requests_by_form}
use Rattle.wire_reader.proofs.ReplyTexts.{replies_by_form}

pub read_back : (bytes : List ℕ) (reply : Reply) → IsReply reply → (IsReply reply → IsReplyText bytes reply) → reply_read bytes ≡ Some reply
read_back bytes reply range is_text = (replies_by_form bytes reply).1 (is_text range)

pub text_of_reply : {T E : Type 0} (r : Result T E) (bytes : T → List ℕ) (reply : Reply) → IsReply reply → IfOk r (λ text. bytes text ≡ reply_text reply)
    → IfOk r (λ text. IsReply reply → IsReplyText (bytes text) reply) → IfOk r (λ text. IsTextFor (bytes text) reply)
text_of_reply (Ok text) bytes reply range is_text is_form = record { is_text = is_text; is_read = read_back (bytes text) reply range is_form }
text_of_reply (Err fault) bytes reply range is_text is_form = tt

-- a request that is read is in range
pub request_in_range : (bytes : List ℕ) (request : Request) → request_read bytes ≡ Some request → IsRequest request
request_in_range bytes request e = ((requests_by_form bytes request).0 e).text.in_range
