use Rattle.std.proofs.Common.{Some, None, ap, ◌∙◌}
use Rattle.serde_json.specs.Find.{as_str}
use Rattle.wire_reader.specs.steps.Streams.{next_in}
use Rattle.wire_reader.proofs.Tokens.{string_here, next_string_none}
use Rattle.wire_reader.proofs.token.text_of.Goals as goal

pub returns-in_default : goal.returns-in_default
returns-in_default c n = ap (next_in as_str n) c.in_default.ensures.value.0 ∙ next_string_none n

pub returns-in_default-string_of : goal.returns-in_default-string_of
returns-in_default-string_of c n = string_here n _ _ _ None c.in-Some.ensures.value c.in_default-string_of.ensures

pub returns : goal.returns
returns c n = string_here n _ _ _ (Some c.in-Some-string_of.text.now) c.in-Some.ensures.value c.in-Some-string_of.ensures
