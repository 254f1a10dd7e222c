use Rattle.std.proofs.Common.{◌-◌, ◌<◌, refl, arith}
use Rattle.wire_reader.specs.steps.Entries.{entry_of}
use Rattle.wire_reader.proofs.Tokens.{message_steps, same_word, other_word, failed}
use Rattle.wire_reader.proofs.entry.EntryPart.read.Goals as goal

pub returns-in_err-word : goal.returns-in_err-word
unfolding entry_of
returns-in_err-word c n h =
    let deep : 0 < n = omega arith in
    failed (λ x. x) c.from_residual.result _ _ _ _ c.from_residual.ensures.1 (c.in_err-word.ensures (n - 1)) (λ none. rw (message_steps _ _ n _ deep, none) refl)

pub returns-in-join : goal.returns-in-join
unfolding entry_of
returns-in-join c n h =
    let deep : 0 < n = omega arith in
    rw (message_steps _ _ n _ deep, c.in_ok-word.ensures (n - 1), same_word _ _ c.in-join.is) (c.join_of.ensures (n - 1))

pub returns-in-next : goal.returns-in-next
unfolding entry_of
returns-in-next c n h =
    let deep : 0 < n = omega arith in
    rw (message_steps _ _ n _ deep, c.in_ok-word.ensures (n - 1), other_word _ _ c.in-next.not-join, same_word _ _ c.in-next.is) (c.next_of.ensures (n - 1))

pub returns-in_default : goal.returns-in_default
unfolding entry_of
returns-in_default c n h =
    let deep : 0 < n = omega arith in
    rw (message_steps _ _ n _ deep, c.in_ok-word.ensures (n - 1), other_word _ _ c.in_default.not-join, other_word _ _ c.in_default.not-next) (c.change_of.ensures (n - 1) (omega arith))
