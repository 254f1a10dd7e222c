use Rattle.std.proofs.Common.{◌++◌, ◌∙◌, ap, sym}
use Rattle.wire_reader.proofs.plain_text.write_character.Goals as goal

pub returns : goal.returns
returns c = (
  c.in_ok-extend_from_slice.ensures.items ∙ ap (λ bytes. c.args.text.now.items ++ bytes) (c.as_bytes.ensures.value ∙ c.encode_utf8.ensures.value),
  sym c.is_plain.ensures ∙ c.if-not-is_plain.false,
)
