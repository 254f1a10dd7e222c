use Rattle.std.proofs.Common.{◌≡◌, None, Some}
use Rattle.world.specs.Alone.{move_of}
use Rattle.world.specs.steps.Steps.{seat_in}
use Rattle.world.proofs.SeatMaps.{seat_of-changed}
use Rattle.world.proofs.seats.move_seat.Goals as goal

pub returns-in_ok-insert-in-Some-Some-clause-ok : goal.returns-in_ok-insert-in-Some-Some-clause-ok
returns-in_ok-insert-in-Some-Some-clause-ok c = λ other.
    let move : move_of c.args.reply.now ≡ Some (Some c.in-Some-Some.site) = cc in
    rw move (seat_of-changed _ _ c.args.session (Some (seat_in c.args.place c.in-Some-Some.site)) c.in_ok-insert-in-Some-Some.ensures.updates.0 other)

pub returns-in-Some-None-clause-ok : goal.returns-in-Some-None-clause-ok
returns-in-Some-None-clause-ok c = λ other.
    let move : move_of c.args.reply.now ≡ Some None = cc in
    rw move (seat_of-changed _ _ c.args.session None c.remove-seat.ensures.updates.0 other)
