use Rattle.std.proofs.Common.{◌≡◌, ◌∙◌, Some, ap}
use Rattle.std.proofs.lemmas.Str.{IsUtf8-from_is_utf8}
use Rattle.json.specs.Lex.{between, lex}
use Rattle.wire_reader.specs.steps.Reads.{request_read}
use Rattle.wire_reader.proofs.RequestTexts.{if_ok, same_lexemes}
use Rattle.wire_reader.proofs.request.plain_in_bytes.Goals as goal

-- the plain text is a text of the same request
pub returns : goal.returns
returns c =
    let bytes = c.args.bytes.now in
    let text = c.deref.result.now in
    let utf8 = IsUtf8-from_is_utf8 bytes c.in_ok-utf8_of.ensures.1 in
    let same = ap (lex between) c.deref.ensures.value ∙ c.in_ok-text.ensures in
    if_ok (λ request. request_read text ≡ Some request) (λ request. request_read bytes ≡ Some request) c.compact_in_bytes.result
    (λ request. same_lexemes bytes text request utf8 c.requires same) c.compact_in_bytes.ensures
