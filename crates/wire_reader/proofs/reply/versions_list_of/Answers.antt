use Rattle.std.proofs.Common.{refl, arith}
use Rattle.wire_reader.specs.steps.Replies.{versions_in}
use Rattle.wire_reader.proofs.Maps.{map_same}
use Rattle.wire_reader.proofs.Tokens.{passing_steps, failed, passed}
use Rattle.wire_reader.proofs.reply.versions_list_of.Goals as goal

pub returns-in_err-versions : goal.returns-in_err-versions
unfolding versions_in
returns-in_err-versions c n h = failed (λ x. x) c.from_residual.result _ _ _ _ c.from_residual.ensures.1 (c.in_err-versions.ensures n (omega arith)) (λ none. rw (passing_steps, none) refl)

pub returns : goal.returns
unfolding versions_in
returns c n h = rw (passing_steps, c.in_ok-versions.ensures n (omega arith), map_same) (passed (λ x. x) c.versions_with.result _ _ c.versions_with.ensures)
