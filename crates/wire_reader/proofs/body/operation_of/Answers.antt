use Rattle.std.proofs.Common.{refl}
use Rattle.wire_reader.proofs.Tokens.{field_steps, failed}
use Rattle.wire_reader.proofs.body.operation_of.Goals as goal

pub returns-in_err-head : goal.returns-in_err-head
returns-in_err-head g c n h k = failed (λ op. (g.H.Part.seen op.0, (op.1, op.2))) c.from_residual.result _ _ _ _ c.from_residual.ensures.1 (c.in_err-head.ensures n k) (λ none. rw (field_steps, none) refl)

pub returns-in_err-seen : goal.returns-in_err-seen
returns-in_err-seen g c n h k =
    failed (λ op. (g.H.Part.seen op.0, (op.1, op.2))) c.from_residual-in_err-seen.result _ _ _ _ c.from_residual-in_err-seen.ensures.1 (c.in_err-seen.ensures n h)
    (λ none. rw (field_steps, c.in_ok-head.ensures n k, field_steps, none) refl)

pub returns-in_err-body : goal.returns-in_err-body
returns-in_err-body g c n h k =
    failed (λ op. (g.H.Part.seen op.0, (op.1, op.2))) c.from_residual-in_err-body.result _ _ _ _ c.from_residual-in_err-body.ensures.1 (c.in_err-body.ensures n h)
    (λ none. rw (field_steps, c.in_ok-head.ensures n k, field_steps, c.in_ok-seen.ensures n h, none) refl)

pub returns : goal.returns
returns g c n h k = rw (field_steps, c.in_ok-head.ensures n k, field_steps, c.in_ok-seen.ensures n h, c.in_ok-body.ensures n h) refl
