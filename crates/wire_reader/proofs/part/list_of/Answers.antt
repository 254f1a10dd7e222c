use Rattle.std.proofs.Common.{◌-◌, ◌<◌, ◌≤◌, map, refl, arith}
use Rattle.wire_reader.proofs.Tokens.{all_steps, failed}
use Rattle.wire_reader.proofs.part.list_of.Goals as goal

pub returns-in_err-open_list : goal.returns-in_err-open_list
returns-in_err-open_list g c n h =
    let deep : 0 < n = omega arith in
    failed (λ parts. map g.P.Part.seen parts.items) c.from_residual.result _ _ _ _ c.from_residual.ensures.1 c.in_err-open_list.ensures (λ none. rw (all_steps _ n _ deep, none) refl)

pub returns : goal.returns
returns g c n h =
    let deep : 0 < n = omega arith in
    let enough : g.P.Part.levels ≤ n - 1 = omega arith in
    rw (all_steps _ n _ deep, c.in_ok-open_list.ensures) (c.others_of.ensures (n - 1) enough)
