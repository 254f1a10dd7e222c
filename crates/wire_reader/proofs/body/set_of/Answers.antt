use Rattle.std.proofs.Common.{refl, arith}
use Rattle.wire_reader.proofs.BodySteps.{set_steps}
use Rattle.wire_reader.proofs.Tokens.{field_steps, failed}
use Rattle.wire_reader.proofs.body.set_of.Goals as goal

pub returns-in_err-object : goal.returns-in_err-object
returns-in_err-object c n h =
    failed (λ x. x) c.from_residual.result _ _ _ _ c.from_residual.ensures.1 (c.in_err-object.ensures n (omega arith))
    (λ none. rw (set_steps, field_steps, none) refl)

pub returns-in_err-version : goal.returns-in_err-version
returns-in_err-version c n h =
    failed (λ x. x) c.from_residual-in_err-version.result _ _ _ _ c.from_residual-in_err-version.ensures.1 (c.in_err-version.ensures n (omega arith))
    (λ none. rw (set_steps, field_steps, c.in_ok-object.ensures n (omega arith), field_steps, none) refl)

pub returns-in_err-key : goal.returns-in_err-key
returns-in_err-key c n h =
    failed (λ x. x) c.from_residual-in_err-key.result _ _ _ _ c.from_residual-in_err-key.ensures.1 (c.in_err-key.ensures n)
    (λ none. rw (set_steps, field_steps, c.in_ok-object.ensures n (omega arith), field_steps, c.in_ok-version.ensures n (omega arith), none) refl)

pub returns : goal.returns
returns c n h = rw (set_steps, field_steps, c.in_ok-object.ensures n (omega arith), field_steps, c.in_ok-version.ensures n (omega arith), c.in_ok-key.ensures n, c.one.ensures) refl
