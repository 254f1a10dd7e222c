use Rattle.std.proofs.Common.{map, ◌∙◌, arith}
use Rattle.std.specs.Arc.{arc_value}
use Rattle.room_core.specs.Room.{with_entry}
use Rattle.room_core.specs.steps.Plans.{admitted}
use Rattle.room_core.proofs.Seen.{at_map}
use Rattle.history_check.proofs.Played.{room_goes_on}
use Rattle.history_check.proofs.replay.advance.Goals as goal

pub loop-place-preserved : goal.loop-place-preserved
loop-place-preserved c =
    let all = c.args.entries.now in
    let x = c.index-entries-place.result in
    let at = at_map arc_value all c.loop-place.place x (omega (arith, c.loop-place-test.true, c.requires.within)) c.index-entries-place.is in
    c.in_ok-accept.ensures.room ∙ (λ i. with_entry (c.loop-place.invariant i) (admitted (c.loop-place.invariant i) (c.deref.ensures i)))
    ∙ room_goes_on (map arc_value all) c.loop-place.place (arc_value x) c.requires.legal at
