use Rattle.std.proofs.Common.{◌≡◌, ◌<◌, length, Some, sym, refl, ap, ◌∙◌}
use Rattle.std.proofs.lemmas.Result.{IfOk-weaker}
use Rattle.world.specs.steps.State.{seat_of}
use Rattle.world.proofs.SeatMaps.{seat_within, state_of}
use Rattle.world.proofs.StepAnswers.{bad_answer, if_ok_with, inside_note}
use Rattle.world.proofs.World.note.Goals as goal

pub returns-in_default-clause-answer : goal.returns-in_default-clause-answer
returns-in_default-clause-answer c = λ message same no_request asked.
    IfOk-weaker c.refusal_text.result _ _
    (λ text t. bad_answer c.args.self.now message _ (record { request = no_request; note = asked ∙ c.in_default.is }) t) c.refusal_text.ensures

pub returns-in-Some-seat_at-clause-answer : goal.returns-in-Some-seat_at-clause-answer
returns-in-Some-seat_at-clause-answer c = λ message same no_request asked.
    let state = state_of c.self.inside.rooms.items c.self.inside.seats.entries in
    let new = state_of c.ask_notes_at.new.rooms.items c.self.inside.seats.entries in
    let seat = c.in-Some-seat_at.field-0 in
    let found : seat_of state.seats c.args.session ≡ Some seat = sym c.seat_at.ensures ∙ c.in-Some-seat_at.is in
    let within : seat.place < length state.rooms = seat_within _ _ c.args.session seat c.self.invariant found in
    let inside : seat_of state.seats message.session ≡ Some seat = ap (seat_of state.seats) same ∙ found in
    rw (← c.self.view_is)
    (if_ok_with c.ask_notes_at.result _ _
    (λ text t notes. inside_note state message c.in-Some.request no_request (asked ∙ c.in-Some.is) seat inside new _ within t
    c.ask_notes_at.ensures.names refl c.ask_notes_at.ensures.rooms c.ask_notes_at.ensures.uses notes)
    c.ask_notes_at.ensures.ok c.ask_notes_at.ensures.notes)
