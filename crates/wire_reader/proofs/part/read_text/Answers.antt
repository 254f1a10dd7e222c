use Rattle.std.proofs.Common.{◌≡◌, Some, refl, sym, ap, ◌∙◌}
use Rattle.json.specs.Lex.{tokens}
use Rattle.wire_reader.specs.steps.Streams.{next_in}
use Rattle.wire_reader.proofs.Tokens.{text_ok, text_more, text_bad, text_in_utf8, failed_text}
use Rattle.wire_reader.proofs.part.read_text.Goals as goal

pub returns-in_err-text : goal.returns-in_err-text
returns-in_err-text g c = failed_text g.P.Part.seen c.from_residual.result _ _ _ c.from_residual.ensures.1 c.in_err-text.ensures (λ none. rw none refl)

pub returns-in_err-part : goal.returns-in_err-part
returns-in_err-part g c =
    let bytes = c.args.bytes.now in
    let same : c.in_ok-reader.reader ≡ tokens bytes = c.in_ok-reader.ensures.ok ∙ ap tokens c.in_ok-text.ensures.0 in
    failed_text g.P.Part.seen c.from_residual-in_err-part.result _ _ _ c.from_residual-in_err-part.ensures.1 (c.in_err-part.ensures 127 c.requires)
    (λ none. text_in_utf8 g.P.Part.read_in bytes c.in_ok-text.ensures.1 ∙ text_bad g.P.Part.read_in bytes (ap (next_in g.P.Part.read_in 127) (sym same) ∙ none))

pub returns-in-None : goal.returns-in-None
returns-in-None g c =
    let bytes = c.args.bytes.now in
    let same : c.in_ok-reader.reader ≡ tokens bytes = c.in_ok-reader.ensures.ok ∙ ap tokens c.in_ok-text.ensures.0 in
    let read = ap (next_in g.P.Part.read_in 127) (sym same) ∙ c.in_ok-part.ensures 127 c.requires ∙ ap (λ ts. Some (g.P.Part.seen c.in_ok-part.part, ts)) c.in-None.ensures.value.0 in
    text_in_utf8 g.P.Part.read_in bytes c.in_ok-text.ensures.1 ∙ text_ok g.P.Part.read_in bytes (g.P.Part.seen c.in_ok-part.part) read

pub returns-in-Some : goal.returns-in-Some
returns-in-Some g c =
    let bytes = c.args.bytes.now in
    let same : c.in_ok-reader.reader ≡ tokens bytes = c.in_ok-reader.ensures.ok ∙ ap tokens c.in_ok-text.ensures.0 in
    let read = ap (next_in g.P.Part.read_in 127) (sym same) ∙ c.in_ok-part.ensures 127 c.requires ∙ ap (λ ts. Some (g.P.Part.seen c.in_ok-part.part, ts)) c.in-Some.ensures.value in
    text_in_utf8 g.P.Part.read_in bytes c.in_ok-text.ensures.1 ∙ text_more g.P.Part.read_in bytes (g.P.Part.seen c.in_ok-part.part) _ _ read
