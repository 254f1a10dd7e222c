use Rattle.std.proofs.Common.{◌-◌, ◌<◌, refl, arith}
use Rattle.wire_reader.specs.steps.Requests.{request_of}
use Rattle.wire_reader.proofs.Tokens.{message_steps, same_word, other_word, failed}
use Rattle.wire_reader.proofs.request.RequestPart.read.Goals as goal

pub returns-in_err-word : goal.returns-in_err-word
unfolding request_of
returns-in_err-word c n h =
    let deep : 0 < n = omega arith in
    failed (λ x. x) c.from_residual.result _ _ _ _ c.from_residual.ensures.1 (c.in_err-word.ensures (n - 1)) (λ none. rw (message_steps _ _ n _ deep, none) refl)

pub returns-in-join : goal.returns-in-join
unfolding request_of
returns-in-join c n h =
    let deep : 0 < n = omega arith in
    rw (message_steps _ _ n _ deep, c.in_ok-word.ensures (n - 1), same_word _ _ c.in-join.is) (c.join_of.ensures (n - 1))

pub returns-in-back : goal.returns-in-back
unfolding request_of
returns-in-back c n h =
    let deep : 0 < n = omega arith in
    rw (message_steps _ _ n _ deep, c.in_ok-word.ensures (n - 1), other_word _ _ c.in-back.not-join, same_word _ _ c.in-back.is) (c.back_of.ensures (n - 1))

pub returns-in-show : goal.returns-in-show
unfolding request_of
returns-in-show c n h =
    let deep : 0 < n = omega arith in
    rw (message_steps _ _ n _ deep, c.in_ok-word.ensures (n - 1), other_word _ _ c.in-show.not-join, other_word _ _ c.in-show.not-back, same_word _ _ c.in-show.is) (c.show_of.ensures (n - 1) (omega arith))

pub returns-in-list : goal.returns-in-list
unfolding request_of
returns-in-list c n h =
    let deep : 0 < n = omega arith in
    rw (message_steps _ _ n _ deep, c.in_ok-word.ensures (n - 1), other_word _ _ c.in-list.not-join, other_word _ _ c.in-list.not-back, other_word _ _ c.in-list.not-show, same_word _ _ c.in-list.is) (c.list_of.ensures (n - 1))

pub returns-in-pull : goal.returns-in-pull
unfolding request_of
returns-in-pull c n h =
    let deep : 0 < n = omega arith in
    rw (message_steps _ _ n _ deep, c.in_ok-word.ensures (n - 1), other_word _ _ c.in-pull.not-join, other_word _ _ c.in-pull.not-back, other_word _ _ c.in-pull.not-show, other_word _ _ c.in-pull.not-list, same_word _ _ c.in-pull.is) (c.pull_of.ensures (n - 1))

pub returns-in-wait : goal.returns-in-wait
unfolding request_of
returns-in-wait c n h =
    let deep : 0 < n = omega arith in
    rw (message_steps _ _ n _ deep, c.in_ok-word.ensures (n - 1), other_word _ _ c.in-wait.not-join, other_word _ _ c.in-wait.not-back, other_word _ _ c.in-wait.not-show, other_word _ _ c.in-wait.not-list, other_word _ _ c.in-wait.not-pull, same_word _ _ c.in-wait.is) (c.pull_of-in-wait.ensures (n - 1))

pub returns-in-leave : goal.returns-in-leave
unfolding request_of
returns-in-leave c n h =
    let deep : 0 < n = omega arith in
    rw (message_steps _ _ n _ deep, c.in_ok-word.ensures (n - 1), other_word _ _ c.in-leave.not-join, other_word _ _ c.in-leave.not-back, other_word _ _ c.in-leave.not-show, other_word _ _ c.in-leave.not-list, other_word _ _ c.in-leave.not-pull, other_word _ _ c.in-leave.not-wait, same_word _ _ c.in-leave.is) (c.leave_of.ensures (n - 1))

pub returns-in_default : goal.returns-in_default
unfolding request_of
returns-in_default c n h =
    let deep : 0 < n = omega arith in
    rw (message_steps _ _ n _ deep, c.in_ok-word.ensures (n - 1), other_word _ _ c.in_default.not-join, other_word _ _ c.in_default.not-back, other_word _ _ c.in_default.not-show, other_word _ _ c.in_default.not-list, other_word _ _ c.in_default.not-pull, other_word _ _ c.in_default.not-wait, other_word _ _ c.in_default.not-leave) (c.change_of.ensures (n - 1) (omega arith))
