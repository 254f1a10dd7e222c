-- Many rooms, and which room each message is of.
use Rattle.std.specs.Prelude.{ℕ, ◌≡◌, ◌<◌, ◌==◌, nat_eq, List, [], ◌∷◌, Option, Some, None}
use Rattle.std.specs.Prelude.{option_and_then, position, filter_map, zip, bytes_eq, if◌then◌else◌}
use Rattle.std.specs.Option.{option_or, option_eq}
use Rattle.rules.specs.declared.refusal.Refusal.TheVariants.{BadMessage, NotJoined, NoSuchRoom}
use Rattle.wire.specs.declared.request.Request.{Request}
use Rattle.wire.specs.declared.request.Request.TheVariants.{Join, Back}
use Rattle.wire.specs.declared.note.NoteRequest.{NoteRequest}
use Rattle.wire.specs.declared.reply.Reply.{Reply}
use Rattle.wire.specs.declared.reply.Reply.TheVariants.{No}
use Rattle.rules.specs.declared.limits.LimitValues.{LimitValues}
use Rattle.wire.specs.Entering.{room_to_enter}
use Rattle.wire_reader.specs.steps.Reads.{request_read, note_request_read}
use Rattle.world.specs.Alone.{Message, Alone, empty_alone, move_of, after_move}
use Rattle.world.specs.Alone.{alone_reply, alone_after}

abbrev pub place_of : List (List ℕ) → List ℕ → Option ℕ
place_of names name = position (λ other. bytes_eq other name) names

-- the rooms by their places, and the place of the room that each session is in
pub record Rooms : Type 0 where
  pub inside : ℕ → Option ℕ
  pub alone : ℕ → Alone

-- nobody is in a room, and so many rooms are empty
pub record AreEmpty (limits : LimitValues) (count : ℕ) (rooms : Rooms) : Type 0 where
  pub inside : (session : ℕ) → rooms.inside session ≡ None
  pub alone : (place : ℕ) → place < count → rooms.alone place ≡ empty_alone limits

-- the room of a message: the one that its session is in, or else the one that it asks to enter
abbrev pub owner_of : List (List ℕ) → Rooms → Message → Option ℕ
owner_of names rooms message =
    option_or (rooms.inside message.session)
    (option_and_then (place_of names) (option_and_then room_to_enter (request_read message.bytes)))

-- the reply to a message of no room, by the message alone
abbrev pub lone_answer : Option Request → Option NoteRequest → Reply
lone_answer None None = No 0 BadMessage
lone_answer (Some (Join name)) asked = No 0 NoSuchRoom
lone_answer (Some (Back name site)) asked = No 0 NoSuchRoom
lone_answer _ _ = No 0 NotJoined

abbrev pub lone_reply : Message → Reply
lone_reply message = lone_answer (request_read message.bytes) (note_request_read message.bytes)

-- the rooms after a message of this owner: only the owner's room changes, and where the session is
abbrev pub after_at : Rooms → Message → Option ℕ → Rooms
after_at rooms message None = rooms
after_at rooms message (Some place) =
    let alone = rooms.alone place in
    let move = move_of (alone_reply alone message) in
    record {
      inside = after_move move (λ site. place) message.session rooms.inside;
      alone = λ other. if place == other then alone_after alone message else rooms.alone other;
    }

abbrev pub rooms_after : List (List ℕ) → Rooms → Message → Rooms
rooms_after names rooms message = after_at rooms message (owner_of names rooms message)

-- the room that each of these messages is of
abbrev pub owners : List (List ℕ) → Rooms → List Message → List (Option ℕ)
owners names rooms [] = []
owners names rooms (message ∷ messages) =
    owner_of names rooms message ∷ owners names (rooms_after names rooms message) messages

-- of a list beside the owners of its items: what is of the room at a place, or of no room
abbrev pub of_owner : {A : Type 0} → Option ℕ → List (Option ℕ) → List A → List A
of_owner owner owners xs = filter_map
    (λ pair. if option_eq nat_eq pair.0 owner then Some pair.1 else None) (zip owners xs)
