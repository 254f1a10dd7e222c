use Rattle.std.proofs.Common.{refl}
use Rattle.wire_reader.proofs.ReplySteps.{returned_steps}
use Rattle.wire_reader.proofs.Tokens.{field_steps, end_steps, failed}
use Rattle.wire_reader.proofs.reply.returned_of.Goals as goal

pub returns-in_err-at : goal.returns-in_err-at
returns-in_err-at c n =
    failed (λ x. x) c.from_residual.result _ _ _ _ c.from_residual.ensures.1 (c.in_err-at.ensures n)
    (λ none. rw (returned_steps, field_steps, none) refl)

pub returns-in_err-site : goal.returns-in_err-site
returns-in_err-site c n =
    failed (λ x. x) c.from_residual-in_err-site.result _ _ _ _ c.from_residual-in_err-site.ensures.1 (c.in_err-site.ensures n)
    (λ none. rw (returned_steps, field_steps, c.in_ok-at.ensures n, field_steps, none) refl)

pub returns-in_err-seq : goal.returns-in_err-seq
returns-in_err-seq c n =
    failed (λ x. x) c.from_residual-in_err-seq.result _ _ _ _ c.from_residual-in_err-seq.ensures.1 (c.in_err-seq.ensures n)
    (λ none. rw (returned_steps, field_steps, c.in_ok-at.ensures n, field_steps, c.in_ok-site.ensures n, field_steps, none) refl)

pub returns-in_err-close_list : goal.returns-in_err-close_list
returns-in_err-close_list c n =
    failed (λ x. x) c.from_residual-in_err-close_list.result _ _ _ _ c.from_residual-in_err-close_list.ensures.1 c.in_err-close_list.ensures
    (λ none. rw (returned_steps, field_steps, c.in_ok-at.ensures n, field_steps, c.in_ok-site.ensures n, field_steps, c.in_ok-seq.ensures n, end_steps, none) refl)

pub returns : goal.returns
returns c n = rw (returned_steps, field_steps, c.in_ok-at.ensures n, field_steps, c.in_ok-site.ensures n, field_steps, c.in_ok-seq.ensures n, end_steps, c.in_ok-close_list.ensures) refl
