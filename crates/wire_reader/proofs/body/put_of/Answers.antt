use Rattle.std.proofs.Common.{refl, arith}
use Rattle.wire_reader.proofs.BodySteps.{put_steps}
use Rattle.wire_reader.proofs.Tokens.{field_steps, failed}
use Rattle.wire_reader.proofs.body.put_of.Goals as goal

pub returns-in_err-object : goal.returns-in_err-object
returns-in_err-object c n h =
    failed (λ x. x) c.from_residual.result _ _ _ _ c.from_residual.ensures.1 (c.in_err-object.ensures n (omega arith))
    (λ none. rw (put_steps, field_steps, none) refl)

pub returns-in_err-version : goal.returns-in_err-version
returns-in_err-version c n h =
    failed (λ x. x) c.from_residual-in_err-version.result _ _ _ _ c.from_residual-in_err-version.ensures.1 (c.in_err-version.ensures n (omega arith))
    (λ none. rw (put_steps, field_steps, c.in_ok-object.ensures n (omega arith), field_steps, none) refl)

pub returns-in_err-pairs : goal.returns-in_err-pairs
returns-in_err-pairs c n h =
    failed (λ x. x) c.from_residual-in_err-pairs.result _ _ _ _ c.from_residual-in_err-pairs.ensures.1 (c.in_err-pairs.ensures n (omega arith))
    (λ none. rw (put_steps, field_steps, c.in_ok-object.ensures n (omega arith), field_steps, c.in_ok-version.ensures n (omega arith), none) refl)

pub returns : goal.returns
returns c n h = rw (put_steps, field_steps, c.in_ok-object.ensures n (omega arith), field_steps, c.in_ok-version.ensures n (omega arith), c.in_ok-pairs.ensures n (omega arith)) refl
