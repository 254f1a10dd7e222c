use Rattle.std.proofs.Common.{refl}
use Rattle.wire_reader.proofs.Tokens.{failed_text}
use Rattle.transcript.proofs.Exchanges.{line_steps}
use Rattle.transcript.proofs.line.read_line.Goals as goal

pub returns-in_err-site : goal.returns-in_err-site
returns-in_err-site c = failed_text (λ line. line) c.from_residual.result _ _ _ c.from_residual.ensures.1 c.in_err-site.ensures (λ none. rw (line_steps, none) refl)

pub returns : goal.returns
returns c = rw (line_steps, c.in_ok-site.ensures) c.line_with.ensures
