use Rattle.std.proofs.Common.{◌≡◌, Some, sym, refl, ◌∙◌, string_bytes}
use Rattle.std.proofs.lemmas.Result.{on_err_weaker}
use Rattle.wire_reader.specs.steps.Reads.{request_read}
use Rattle.world.specs.steps.State.{names_of, seat_of, message_of}
use Rattle.world.specs.steps.Steps.{asker_of}
use Rattle.world.proofs.Places.{same_length}
use Rattle.world.proofs.SeatMaps.{seats_within, state_of, moves_of}
use Rattle.world.proofs.Changed.{asker_within}
use Rattle.world.proofs.ReadBack.{request_in_range}
use Rattle.world.proofs.StepAnswers.{room_answer, if_ok_and}
use Rattle.world.proofs.World.step_with.Goals as goal

pub invariant_of-self : goal.invariant_of-self
invariant_of-self c =
    let state = state_of c.self.inside.rooms.items c.self.inside.seats.entries in
    let found : asker_of (names_of state) c.args.session (seat_of state.seats c.args.session) c.in-Some.request ≡ Some c.in-Some-asker_of.asker = cc (c.asker_of.ensures, c.seat_at-seat.ensures, c.in-Some-asker_of.is, c.deref.ensures.value) in
    let within = asker_within state c.args.session (seat_of state.seats c.args.session) c.in-Some.request c.in-Some-asker_of.asker c.self.invariant refl found in
    seats_within c.answer_at.result _ c.in-Some-asker_of.asker.place _ _ c.in-Some-asker_of.asker.session _ _ within (same_length _ _ c.answer_at.ensures.names) c.self.invariant
    (moves_of c.answer_at.result string_bytes _ _ _ _ c.answer_at.ensures.ok) (on_err_weaker c.answer_at.result (λ e. e.1) c.answer_at.ensures.err)

pub returns-clause-answer : goal.returns-clause-answer
returns-clause-answer c =
    let state = state_of c.self.inside.rooms.items c.self.inside.seats.entries in
    let new = state_of c.answer_at.new.rooms.items c.answer_at.new.seats.entries in
    let message = message_of c.args.session c.args.bytes.now in
    let is_request : request_read c.args.bytes.now ≡ Some c.in-Some.request = sym c.in_ok-request.ensures ∙ c.in-Some.is in
    let found : asker_of (names_of state) c.args.session (seat_of state.seats c.args.session) c.in-Some.request ≡ Some c.in-Some-asker_of.asker = cc (c.asker_of.ensures, c.seat_at-seat.ensures, c.in-Some-asker_of.is, c.deref.ensures.value) in
    let within = asker_within state c.args.session (seat_of state.seats c.args.session) c.in-Some.request c.in-Some-asker_of.asker c.self.invariant refl found in
    rw (← c.self.view_is) (if_ok_and c.answer_at.result _ _ (λ text replies rooms uses notes. room_answer state message c.in-Some.request is_request c.in-Some-asker_of.asker found new _ within c.answer_at.ensures.legal c.answer_at.ensures.names replies rooms uses notes) c.answer_at.ensures.ok c.answer_at.ensures.rooms c.answer_at.ensures.uses c.answer_at.ensures.notes)

pub answer_at-requires-clause-range : goal.answer_at-requires-clause-range
answer_at-requires-clause-range c = request_in_range c.args.bytes.now c.in-Some.request (sym c.in_ok-request.ensures ∙ c.in-Some.is)
