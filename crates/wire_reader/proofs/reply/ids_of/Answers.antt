use Rattle.std.proofs.Common.{refl, arith}
use Rattle.wire_reader.specs.steps.Replies.{ids_in}
use Rattle.wire_reader.proofs.Maps.{map_same}
use Rattle.wire_reader.proofs.Tokens.{passing_steps, failed, passed}
use Rattle.wire_reader.proofs.reply.ids_of.Goals as goal

pub returns-in_err-ids : goal.returns-in_err-ids
unfolding ids_in
returns-in_err-ids c n h = failed (λ x. x) c.from_residual.result _ _ _ _ c.from_residual.ensures.1 (c.in_err-ids.ensures n (omega arith)) (λ none. rw (passing_steps, none) refl)

pub returns : goal.returns
unfolding ids_in
returns c n h = rw (passing_steps, c.in_ok-ids.ensures n (omega arith), map_same) (passed (λ x. x) c.ids_with.result _ _ c.ids_with.ensures)
