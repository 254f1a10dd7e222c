-- The texts of entries and replies.
use Rattle.std.specs.Prelude.{List, ℕ}
use Rattle.serde_json.specs.Written.{compact_text}
use Rattle.wire.specs.declared.reply.Reply.{Reply}
use Rattle.wire.specs.Form.{reply_form}

unfoldable pub reply_text : Reply → List ℕ
reply_text reply = compact_text (reply_form reply)
