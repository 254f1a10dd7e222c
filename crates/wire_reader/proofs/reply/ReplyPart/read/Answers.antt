use Rattle.std.proofs.Common.{◌-◌, ◌<◌, refl, arith}
use Rattle.wire_reader.specs.steps.Replies.{reply_of}
use Rattle.wire_reader.proofs.Tokens.{message_steps, same_word, other_word, failed}
use Rattle.wire_reader.proofs.reply.ReplyPart.read.Goals as goal

pub returns-in_err-word : goal.returns-in_err-word
unfolding reply_of
returns-in_err-word c n h =
    let deep : 0 < n = omega arith in
    failed (λ x. x) c.from_residual.result _ _ _ _ c.from_residual.ensures.1 (c.in_err-word.ensures (n - 1)) (λ none. rw (message_steps _ _ n _ deep, none) refl)

pub returns-in-joined : goal.returns-in-joined
unfolding reply_of
returns-in-joined c n h =
    let deep : 0 < n = omega arith in
    rw (message_steps _ _ n _ deep, c.in_ok-word.ensures (n - 1), same_word _ _ c.in-joined.is) (c.joined_of.ensures (n - 1))

pub returns-in-back : goal.returns-in-back
unfolding reply_of
returns-in-back c n h =
    let deep : 0 < n = omega arith in
    rw (message_steps _ _ n _ deep, c.in_ok-word.ensures (n - 1), other_word _ _ c.in-back.not-joined, same_word _ _ c.in-back.is) (c.returned_of.ensures (n - 1))

pub returns-in-made : goal.returns-in-made
unfolding reply_of
returns-in-made c n h =
    let deep : 0 < n = omega arith in
    rw (message_steps _ _ n _ deep, c.in_ok-word.ensures (n - 1), other_word _ _ c.in-made.not-joined, other_word _ _ c.in-made.not-back, same_word _ _ c.in-made.is) (c.made_of.ensures (n - 1) (omega arith))

pub returns-in-taken : goal.returns-in-taken
unfolding reply_of
returns-in-taken c n h =
    let deep : 0 < n = omega arith in
    rw (message_steps _ _ n _ deep, c.in_ok-word.ensures (n - 1), other_word _ _ c.in-taken.not-joined, other_word _ _ c.in-taken.not-back, other_word _ _ c.in-taken.not-made, same_word _ _ c.in-taken.is) (c.taken_of.ensures (n - 1) (omega arith))

pub returns-in-versions : goal.returns-in-versions
unfolding reply_of
returns-in-versions c n h =
    let deep : 0 < n = omega arith in
    rw (message_steps _ _ n _ deep, c.in_ok-word.ensures (n - 1), other_word _ _ c.in-versions.not-joined, other_word _ _ c.in-versions.not-back, other_word _ _ c.in-versions.not-made, other_word _ _ c.in-versions.not-taken, same_word _ _ c.in-versions.is) (c.versions_of.ensures (n - 1) (omega arith))

pub returns-in_default : goal.returns-in_default
unfolding reply_of
returns-in_default c n h =
    let deep : 0 < n = omega arith in
    rw (message_steps _ _ n _ deep, c.in_ok-word.ensures (n - 1), other_word _ _ c.in_default.not-joined, other_word _ _ c.in_default.not-back, other_word _ _ c.in_default.not-made, other_word _ _ c.in_default.not-taken, other_word _ _ c.in_default.not-versions) (c.other_of.ensures (n - 1) (omega arith))
