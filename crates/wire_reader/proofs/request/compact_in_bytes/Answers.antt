use Rattle.std.proofs.Common.{IsUtf8, subst, sym}
use Rattle.wire.proofs.OwnTexts.{is_request_text}
use Rattle.wire_reader.proofs.RequestTexts.{request_text_again}
use Rattle.wire_reader.proofs.Utf8.{compact_is_utf8, if_ok_three}
use Rattle.wire_reader.proofs.request.compact_in_bytes.Goals as goal

-- the compact text of a request is read as the request
pub returns : goal.returns
returns c =
    let bytes = c.args.bytes.now in
    let read = c.read_compact.ensures in
    if_ok_three _ _ _ _ c.read_compact.result
    (λ request text range utf8. request_text_again bytes request (is_request_text request bytes (subst IsUtf8 (sym text) (compact_is_utf8 request range utf8)) text range c.requires))
    read.text read.range read.utf8
