use Rattle.std.proofs.Common.{string_bytes}
use Rattle.std.proofs.lemmas.Result.{IfOk-weaker}
use Rattle.std.proofs.lemmas.Str.{IsUtf8-string_bytes}
use Rattle.wire.proofs.OwnTexts.{is_entry_text}
use Rattle.wire.proofs.write.entry.write_entry.Goals as goal

pub returns-clause-is_read : goal.returns-clause-is_read
returns-clause-is_read c =
    IfOk-weaker c.compact.result _ _ (λ text. is_entry_text c.args.entry.now (string_bytes text) (IsUtf8-string_bytes text)) c.compact.ensures
