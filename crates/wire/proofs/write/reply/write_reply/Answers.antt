use Rattle.std.proofs.Common.{string_bytes}
use Rattle.std.proofs.lemmas.Result.{IfOk-weaker}
use Rattle.std.proofs.lemmas.Str.{IsUtf8-string_bytes}
use Rattle.wire.specs.Texts.{reply_text}
use Rattle.wire.proofs.OwnTexts.{is_reply_text}
use Rattle.wire.proofs.write.reply.write_reply.Goals as goal

pub returns-clause-is_read : goal.returns-clause-is_read
unfolding reply_text
returns-clause-is_read c =
    IfOk-weaker c.compact_within.result _ _ (λ text. is_reply_text c.args.reply.now (string_bytes text) (IsUtf8-string_bytes text)) c.compact_within.ensures
