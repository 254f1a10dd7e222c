use Rattle.std.proofs.Common.{◌-◌, ◌<◌, refl, arith}
use Rattle.wire_reader.proofs.Exchanges.{exchange_list, exchange_steps}
use Rattle.wire_reader.proofs.Tokens.{field_steps, failed}
use Rattle.wire_reader.proofs.exchange.Tuple3U32RequestReplyPart.read.Goals as goal

pub returns-in_err-open_list : goal.returns-in_err-open_list
returns-in_err-open_list c n h =
    let deep : 0 < n = omega arith in
    failed (λ e. (e.0, (e.1, e.2))) c.from_residual.result _ _ _ _ c.from_residual.ensures.1 c.in_err-open_list.ensures (λ none. rw (exchange_list n _ deep, none) refl)

pub returns-in_err-site : goal.returns-in_err-site
returns-in_err-site c n h =
    let deep : 0 < n = omega arith in
    failed (λ e. (e.0, (e.1, e.2))) c.from_residual-in_err-site.result _ _ _ _ c.from_residual-in_err-site.ensures.1 (c.in_err-site.ensures (n - 1))
    (λ none. rw (exchange_list n _ deep, c.in_ok-open_list.ensures, exchange_steps, field_steps, none) refl)

pub returns-in_err-request : goal.returns-in_err-request
returns-in_err-request c n h =
    let deep : 0 < n = omega arith in
    failed (λ e. (e.0, (e.1, e.2))) c.from_residual-in_err-request.result _ _ _ _ c.from_residual-in_err-request.ensures.1 (c.in_err-request.ensures (n - 1) (omega arith) (omega arith))
    (λ none. rw (exchange_list n _ deep, c.in_ok-open_list.ensures, exchange_steps, field_steps, c.in_ok-site.ensures (n - 1), none) refl)

pub returns : goal.returns
returns c n h =
    let deep : 0 < n = omega arith in
    rw (
      exchange_list n _ deep,
      c.in_ok-open_list.ensures,
      exchange_steps,
      field_steps,
      c.in_ok-site.ensures (n - 1),
      c.in_ok-request.ensures (n - 1) (omega arith) (omega arith),
    ) refl
