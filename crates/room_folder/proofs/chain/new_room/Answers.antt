use Rattle.std.proofs.Common.{◌≡◌, IfSome, ap, subst}
use Rattle.room_core.specs.State.{DrawingState}
use Rattle.succession.specs.Succession.{Follows}
use Rattle.room_folder.proofs.chain.new_room.Goals as goal

pub invariant_of-result : goal.invariant_of-result
invariant_of-result c =
    let follows = subst (λ found. IfSome found (λ (new : DrawingState). Follows c.args.old.now.state.room new.room)) c.in-Some.is c.in_ok-state.ensures in
    record { limits = ap (λ room. room.limits) follows.whole }
