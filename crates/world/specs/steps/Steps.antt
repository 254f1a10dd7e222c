-- Helpers of proofs: what a step gives, in its parts.
use Rattle.std.specs.Prelude.{ℕ, ◌≡◌, Bool, List, Option, Some, None, option_map, option_and_then}
use Rattle.rules.specs.declared.refusal.Refusal.{Refusal}
use Rattle.rules.specs.declared.refusal.Refusal.TheVariants.{NotJoined, NoSuchRoom}
use Rattle.wire.specs.declared.request.Request.{Request}
use Rattle.wire.specs.declared.request.Request.TheVariants.{Join, Back}
use Rattle.wire.specs.declared.reply.Reply.{Reply}
use Rattle.wire.specs.declared.reply.Reply.TheVariants.{No}
use Rattle.wire.specs.Entering.{room_to_enter}
use Rattle.wire.specs.Texts.{reply_text}
use Rattle.wire_reader.specs.steps.Reads.{reply_read}
use Rattle.room_core.specs.Room.{Room}
use Rattle.room_core.specs.Answers.{Outcome, reply_alone, join_answer, back_reply, answer}
use Rattle.world.specs.declared.seats.Seat.{Seat}
use Rattle.world.specs.declared.seats.Asker.{Asker}
use Rattle.world.specs.Alone.{move_of, after_move}
use Rattle.world.specs.Rooms.{place_of}
use Rattle.world.specs.steps.State.{Named, room_at, use_at, seat_of}

-- the answer to a request of a session that is in no room, where these sites are in use
abbrev pub outside_answer : Room → (ℕ → Bool) → Request → Outcome
outside_answer room in_use (Join name) = join_answer room
outside_answer room in_use (Back name site) = reply_alone (back_reply room (in_use site) site)
outside_answer room in_use _ = reply_alone (No 0 NotJoined)

-- the answer of a room to a request of a site, or to one of a session that is in no room
abbrev pub asker_answer : Room → (ℕ → Bool) → Option ℕ → Request → Outcome
asker_answer room in_use None request = outside_answer room in_use request
asker_answer room in_use (Some site) request = answer room site request

-- and of the room at a place
abbrev pub place_answer : List Named → ℕ → Option ℕ → Request → Outcome
place_answer rooms place who request =
    asker_answer (room_at rooms place) (use_at rooms place) who request

-- why a request that is of no room is refused
abbrev pub lone_refusal : Option (List ℕ) → Refusal
lone_refusal (Some name) = NoSuchRoom
lone_refusal None = NotJoined

-- the room that a request asks to enter
abbrev pub named_place : List (List ℕ) → Option Request → Option ℕ
named_place names request = option_and_then (place_of names) (option_and_then room_to_enter request)

-- who asks, and which room: a session that has a seat, or one that asks to be let into a room
abbrev pub asker_of : List (List ℕ) → ℕ → Option Seat → Request → Option Asker
asker_of names session (Some seat) request =
    Some (record { session = session; place = seat.place; site = Some seat.site })
asker_of names session None request =
    option_map (λ place. record { session = session; place = place; site = None })
    (named_place names (Some request))

abbrev pub seat_in : ℕ → ℕ → Seat
seat_in place site = record { place = place; site = site }

-- the room at this place replied so to a session: each session then has the seat that it had, or is
-- moved
abbrev pub IsMoved : List (ℕ × Seat) → List (ℕ × Seat) → Reply → ℕ → ℕ → Type 0
IsMoved old new reply session place = (other : ℕ)
    → seat_of new other ≡ after_move (move_of reply) (seat_in place) session (seat_of old) other

-- the text is written for a reply and is read as it
pub record IsTextFor (text : List ℕ) (reply : Reply) : Type 0 where
  pub is_text : text ≡ reply_text reply
  pub is_read : reply_read text ≡ Some reply

-- such a text is the reply to whoever asks, whose session is moved by it
pub record RepliesTo (asker : Asker) (reply : Reply) (text : List ℕ)
    (old new : List (ℕ × Seat)) : Type 0 where
  pub is_text : text ≡ reply_text reply
  pub is_read : reply_read text ≡ Some reply
  pub moves : IsMoved old new reply asker.session asker.place
