use Rattle.std.proofs.Common.{◌-◌, length, drop, map, ap, sym, ◌∙◌, arith}
use Rattle.std.specs.Arc.{arc_value}
use Rattle.std.proofs.lemmas.List.{drop-map, length-drop, take_all}
use Rattle.std.proofs.lemmas.Result.{IfOk-weaker}
use Rattle.room_lock.proofs.restoring.share_from.Goals as goal

pub returns : goal.returns
returns c =
    let entries = c.args.entries.now in
    let from = c.args.from in
    let long = length-drop from entries in
    let all = take_all (length entries - from) (drop from entries) (omega (arith, long)) in
    IfOk-weaker c.shared_entries.result _ _ (λ owners is. is ∙ ap (map arc_value) all ∙ sym (drop-map arc_value from entries)) c.shared_entries.ensures
