use Rattle.std.proofs.Common.{refl, arith}
use Rattle.wire_reader.specs.steps.Reading.{attrs_in}
use Rattle.wire_reader.proofs.Maps.{map_same}
use Rattle.wire_reader.proofs.Tokens.{passing_steps, failed, passed}
use Rattle.wire_reader.proofs.part.attrs_of.Goals as goal

pub returns-in_err-pairs : goal.returns-in_err-pairs
unfolding attrs_in
returns-in_err-pairs c n h = failed (λ x. x) c.from_residual.result _ _ _ _ c.from_residual.ensures.1 (c.in_err-pairs.ensures n (omega arith)) (λ none. rw (passing_steps, none) refl)

pub returns : goal.returns
unfolding attrs_in
returns c n h = rw (passing_steps, c.in_ok-pairs.ensures n (omega arith), map_same) (passed (λ x. x) c.attrs_with.result _ _ c.attrs_with.ensures)
