use Rattle.std.proofs.Common.{refl, arith}
use Rattle.wire_reader.specs.steps.Reading.{id_in}
use Rattle.wire_reader.proofs.Maps.{map_same}
use Rattle.wire_reader.proofs.Tokens.{passing_steps, failed, passed}
use Rattle.wire_reader.proofs.part.id_of.Goals as goal

pub returns-in_err-names : goal.returns-in_err-names
unfolding id_in
returns-in_err-names c n h = failed (λ x. x) c.from_residual.result _ _ _ _ c.from_residual.ensures.1 (c.in_err-names.ensures n (omega arith)) (λ none. rw (passing_steps, none) refl)

pub returns : goal.returns
unfolding id_in
returns c n h = rw (passing_steps, c.in_ok-names.ensures n (omega arith), map_same) (passed (λ x. x) c.id_with.result _ _ c.id_with.ensures)
