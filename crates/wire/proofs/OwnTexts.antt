-- The compact text of a request, an entry or a reply in range is a text of it.
use Rattle.std.proofs.Common.{◌≡◌, ℕ, ◌≤◌, List, IsUtf8, length, inl, refl, ap, ◌∙◌, arith}
use Rattle.serde_json.specs.Written.{compact_text}
use Rattle.serde_json.specs.Read.{read}
use Rattle.rules.specs.declared.history.Entry.{Entry}
use Rattle.wire.specs.declared.request.Request.{Request}
use Rattle.wire.specs.declared.request.TheConstants.{MAX_REQUEST_LEN}
use Rattle.wire.specs.declared.reply.Reply.{Reply}
use Rattle.wire.specs.Form.{entry_form, reply_form, IsRequest, IsRequestText, IsEntry, IsEntryText}
use Rattle.wire.specs.Form.{IsReply, IsReplyText}
use Rattle.wire.specs.steps.Forms.{request_form, entry_text}
use Rattle.wire.specs.Texts.{reply_text}
use Rattle.wire.proofs.Again.{compact_again}
use Rattle.wire.proofs.Plain.{plain_request, plain_entry, plain_reply}
use Rattle.wire.proofs.Shallow.{shallow_request, shallow_entry, shallow_reply}
use Rattle.wire.proofs.Written.{written_reply}

pub is_request_text : (q : Request) (bytes : List ℕ) → IsUtf8 bytes → bytes ≡ compact_text (request_form q) → IsRequest q → length bytes ≤ MAX_REQUEST_LEN → IsRequestText bytes q
is_request_text q bytes utf8 is in_range short =
    let shallow = shallow_request q in
    record {
      short = short;
      text = record { utf8 = utf8; value = _; is_read = ap read is ∙ compact_again (request_form q) (plain_request q in_range) (omega arith); form = inl refl; in_range = in_range };
    }

pub is_entry_text : (entry : Entry) (bytes : List ℕ) → IsUtf8 bytes → bytes ≡ entry_text entry → IsEntry entry → IsEntryText bytes entry
is_entry_text entry bytes utf8 is in_range =
    let shallow = shallow_entry entry in
    record { utf8 = utf8; value = _; is_read = ap read is ∙ compact_again (entry_form entry) (plain_entry entry in_range) (omega arith); form = inl refl; in_range = in_range }

pub is_reply_text : (reply : Reply) (bytes : List ℕ) → IsUtf8 bytes → bytes ≡ reply_text reply → IsReply reply → IsReplyText bytes reply
unfolding reply_text
is_reply_text reply bytes utf8 is in_range =
    let shallow = shallow_reply reply in
    record { utf8 = utf8; value = _; is_read = ap read is ∙ compact_again (reply_form reply) (plain_reply reply in_range) (omega arith); form = written_reply reply; in_range = in_range }
