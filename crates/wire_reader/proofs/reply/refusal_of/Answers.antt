use Rattle.std.proofs.Common.{refl}
use Rattle.wire_reader.proofs.Shown.{refusal_steps}
use Rattle.wire_reader.proofs.Tokens.{field_steps, end_steps, failed, passed}
use Rattle.wire_reader.proofs.reply.refusal_of.Goals as goal

pub returns-in_err-code : goal.returns-in_err-code
returns-in_err-code c n = failed (λ x. x) c.from_residual.result _ _ _ _ c.from_residual.ensures.1 (c.in_err-code.ensures n) (λ none. rw (refusal_steps, field_steps, none) refl)

pub returns-in_err-word : goal.returns-in_err-word
returns-in_err-word c n =
    failed (λ x. x) c.from_residual-in_err-word.result _ _ _ _ c.from_residual-in_err-word.ensures.1 (c.in_err-word.ensures n)
    (λ none. rw (refusal_steps, field_steps, c.in_ok-code.ensures n, field_steps, none) refl)

pub returns-in_err-close_list : goal.returns-in_err-close_list
returns-in_err-close_list c n =
    failed (λ x. x) c.from_residual-in_err-close_list.result _ _ _ _ c.from_residual-in_err-close_list.ensures.1 c.in_err-close_list.ensures
    (λ none. rw (refusal_steps, field_steps, c.in_ok-code.ensures n, field_steps, c.in_ok-word.ensures n, end_steps, none) refl)

pub returns : goal.returns
returns c n =
    rw (refusal_steps, field_steps, c.in_ok-code.ensures n, field_steps, c.in_ok-word.ensures n, end_steps, c.in_ok-close_list.ensures)
    (passed (λ x. x) c.refusal_with.result _ _ c.refusal_with.ensures)
