use Rattle.std.proofs.Common.{string_bytes}
use Rattle.std.proofs.lemmas.Result.{IfOk-weaker}
use Rattle.std.proofs.lemmas.Str.{IsUtf8-string_bytes}
use Rattle.wire.proofs.OwnTexts.{is_request_text}
use Rattle.wire.proofs.write.request.write_request.Goals as goal

pub returns-clause-is_read : goal.returns-clause-is_read
returns-clause-is_read c =
    IfOk-weaker c.compact.result _ _ (λ text. is_request_text c.args.request.now (string_bytes text) (IsUtf8-string_bytes text)) c.compact.ensures
