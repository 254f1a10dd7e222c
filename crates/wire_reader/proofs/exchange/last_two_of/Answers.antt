use Rattle.std.proofs.Common.{refl}
use Rattle.wire_reader.proofs.Tokens.{field_steps, end_steps, failed}
use Rattle.wire_reader.proofs.exchange.last_two_of.Goals as goal

pub returns-in_err-first : goal.returns-in_err-first
returns-in_err-first g c n h k =
    failed (λ parts. (g.A.Part.seen parts.0, (g.B.Part.seen parts.1, tt))) c.from_residual.result _ _ _ _ c.from_residual.ensures.1 (c.in_err-first.ensures n h)
    (λ none. rw (field_steps, none) refl)

pub returns-in_err-second : goal.returns-in_err-second
returns-in_err-second g c n h k =
    failed (λ parts. (g.A.Part.seen parts.0, (g.B.Part.seen parts.1, tt))) c.from_residual-in_err-second.result _ _ _ _ c.from_residual-in_err-second.ensures.1 (c.in_err-second.ensures n k)
    (λ none. rw (field_steps, c.in_ok-first.ensures n h, field_steps, none) refl)

pub returns-in_err-close_list : goal.returns-in_err-close_list
returns-in_err-close_list g c n h k =
    failed (λ parts. (g.A.Part.seen parts.0, (g.B.Part.seen parts.1, tt))) c.from_residual-in_err-close_list.result _ _ _ _ c.from_residual-in_err-close_list.ensures.1 c.in_err-close_list.ensures
    (λ none. rw (field_steps, c.in_ok-first.ensures n h, field_steps, c.in_ok-second.ensures n k, end_steps, none) refl)

pub returns : goal.returns
returns g c n h k = rw (field_steps, c.in_ok-first.ensures n h, field_steps, c.in_ok-second.ensures n k, end_steps, c.in_ok-close_list.ensures) refl
