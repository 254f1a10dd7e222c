-- One message and its answer: what is shown of an object is shown of the message's own room.
use Rattle.std.proofs.Common.{◌≡◌, ℕ, ◌<◌, Bool, false, cond, eqb, List, length, set, Option, Some, None, Result, Ok, Err, IfOk, OnOk, refl, sym, ap, ◌∙◌, subst}
use Rattle.std.specs.Option.{option_map, option_or}
use Rattle.std.proofs.lemmas.Bool.{eq-eqb}
use Rattle.base_types.specs.Names.{Name}
use Rattle.base_types.specs.Texts.{Bytes}
use Rattle.rules.specs.declared.refusal.Refusal.{Refusal}
use Rattle.rules.specs.declared.refusal.Refusal.TheVariants.{BadMessage, NotJoined}
use Rattle.rules.specs.declared.version.Version.{Version}
use Rattle.rules.specs.Records.{IsLegal}
use Rattle.wire.specs.declared.request.Request.{Request}
use Rattle.wire.specs.declared.note.NoteRequest.{NoteRequest}
use Rattle.wire.specs.declared.reply.Reply.{Reply}
use Rattle.wire.specs.declared.reply.Reply.TheVariants.{Versions, No, Notes as NotesOf}
use Rattle.wire.specs.Notes.{all_notes, notes_after}
use Rattle.wire.specs.Texts.{reply_text}
use Rattle.wire_reader.specs.steps.Reads.{request_read, note_request_read, reply_read}
use Rattle.room_core.specs.Room.{Room, with_entry}
use Rattle.room_core.specs.Answers.{Outcome, reply_alone}
use Rattle.room_core.specs.Shown.{HasObject}
use Rattle.room_core.proofs.Shows.{IsShownBy, has_if_shown}
use Rattle.world.specs.declared.seats.Asker.{Asker}
use Rattle.world.specs.declared.seats.Seat.{Seat}
use Rattle.world.specs.Alone.{Message, answer_to, use_after_move, move_of, noted_by, notes_after_move, alone_answer, alone_after}
use Rattle.world.specs.steps.Ends.{reply_at, reply_to}
use Rattle.world.specs.Rooms.{Rooms, lone_answer, owner_of, after_at, rooms_after}
use Rattle.world.specs.steps.State.{WorldState, names_of, no_room, rooms_in, room_at, uses_in, use_at, notes_of_rooms, notes_of, seat_of, site_at, alone_at, rooms_of, no_site}
use Rattle.world.specs.steps.Steps.{place_answer, asker_of, IsTextFor, RepliesTo, named_place}
use Rattle.world.specs.steps.OwnerShown.{OwnerHasObject, ShowsGroups}
use Rattle.world.specs.steps.Runs.{IsStep}
use Rattle.world.proofs.Places.{set_same}
use Rattle.world.proofs.Changed.{owner_is, answer_is, asked_after, rooms_of-changed}
use Rattle.world.proofs.LongLines.{IsBad, bad_reply, bad_after}
use Rattle.world.proofs.RoomShows.{room_shows}

-- the room at a place, which the message is of, answers with versions
module _ (state : WorldState) (message : Message) (place : ℕ) (who : Option ℕ) (asks : Request)
    (owner : owner_of (names_of state) (rooms_of state) message ≡ Some place)
    (is_answer : alone_answer (alone_at state place) message ≡ place_answer state.rooms place who asks)
    (legal : IsLegal (room_at state.rooms place).limits (room_at state.rooms place).entries)
    (at : ℕ) (object : Name) (kind : Bytes) (vs : List Version)
    (is_shown : (place_answer state.rooms place who asks).0 ≡ Versions at object kind vs)
  where
    by_room : IsShownBy (room_at state.rooms place) at object kind vs (place_answer state.rooms place who asks).1
    by_room = room_shows (room_at state.rooms place) at object kind vs (use_at state.rooms place) who asks is_shown

    same_room : ((rooms_after (names_of state) (rooms_of state) message).alone place).room ≡ room_at state.rooms place
    same_room =
        ap (λ (o : Option ℕ). ((after_at (rooms_of state) message o).alone place).room) owner
        ∙ ap (λ (b : Bool). (cond b (alone_after (alone_at state place) message) (alone_at state place)).room) (eq-eqb place place refl)
        ∙ ap (λ (o : Outcome). with_entry (room_at state.rooms place) o.1) is_answer
        ∙ ap (with_entry (room_at state.rooms place)) by_room.nothing

    has_object : HasObject (room_at state.rooms place) at object kind vs
    has_object = has_if_shown (room_at state.rooms place) at object kind vs _ legal by_room

    pub owner_has_object : OwnerHasObject (names_of state) (rooms_of state) message at object kind vs
    owner_has_object = record {
      place = place;
      owner = owner;
      has = subst (λ (room : Room). HasObject room at object kind vs) (sym same_room) has_object;
    }

-- the text is read as the answer of the room that the message is of
owner_shows : (state : WorldState) (message : Message) (place : ℕ) (who : Option ℕ) (asks : Request) (text : List ℕ)
    → owner_of (names_of state) (rooms_of state) message ≡ Some place
    → alone_answer (alone_at state place) message ≡ place_answer state.rooms place who asks
    → IsLegal (room_at state.rooms place).limits (room_at state.rooms place).entries
    → reply_read text ≡ Some (place_answer state.rooms place who asks).0
    → ShowsGroups (names_of state) (rooms_of state) message text
owner_shows state message place who asks text owner is_answer legal is_read at object kind vs e =
    let same : (place_answer state.rooms place who asks).0 ≡ Versions at object kind vs = cc in
    owner_has_object state message place who asks owner is_answer legal at object kind vs same

-- a text that is read as a refusal shows nothing
refusal_shows : (names : List (List ℕ)) (rooms : Rooms) (message : Message) (why : Refusal) (text : List ℕ) → reply_read text ≡ Some (No 0 why) → ShowsGroups names rooms message text
refusal_shows names rooms message why text is_read at object kind vs e = absurd (cc)

-- ---- a refusal that looks into no room

refusal_answer : (state : WorldState) (message : Message) (why : Refusal) (text : List ℕ)
    → reply_to (names_of state) (rooms_of state) message ≡ No 0 why → rooms_after (names_of state) (rooms_of state) message ≡ rooms_of state
    → IsTextFor text (No 0 why) → IsStep state message text state
refusal_answer state message why text is_reply is_rooms t = record {
  is_text = t.is_text ∙ ap reply_text (sym is_reply);
  is_read = t.is_read ∙ ap Some (sym is_reply);
  shown = refusal_shows (names_of state) (rooms_of state) message why text t.is_read;
  rooms = sym is_rooms;
  names = refl;
}

-- the bytes are a request of no kind
pub bad_answer : (state : WorldState) (message : Message) (text : List ℕ) → IsBad message.bytes → IsTextFor text (No 0 BadMessage) → IsStep state message text state
bad_answer state message text e t =
    refusal_answer state message BadMessage text (bad_reply (names_of state) (rooms_of state) message e) (bad_after (names_of state) (rooms_of state) message e) t

-- ---- an answer of a room

pub room_answer : (state : WorldState) (message : Message) (request : Request) (is_request : request_read message.bytes ≡ Some request) (asker : Asker)
    (found : asker_of (names_of state) message.session (seat_of state.seats message.session) request ≡ Some asker) (new : WorldState) (text : List ℕ)
    → asker.place < length state.rooms
    → IsLegal (room_at state.rooms asker.place).limits (room_at state.rooms asker.place).entries
    → names_of new ≡ names_of state
    → RepliesTo asker (place_answer state.rooms asker.place asker.site request).0 text state.seats new.seats
    → rooms_in new.rooms ≡ set (rooms_in state.rooms) asker.place (with_entry (room_at state.rooms asker.place) (place_answer state.rooms asker.place asker.site request).1)
    → uses_in new.rooms ≡ set (uses_in state.rooms) asker.place (use_after_move (move_of (place_answer state.rooms asker.place asker.site request).0) asker.site (use_at state.rooms asker.place))
    → notes_of_rooms new.rooms ≡ set (notes_of_rooms state.rooms) asker.place (notes_after_move (move_of (place_answer state.rooms asker.place asker.site request).0) asker.site (notes_of state.rooms asker.place))
    → IsStep state message text new
room_answer state message request is_request asker found new text within legal names replies rooms uses notes =
    let owner = owner_is state message request is_request asker found in
    let answer = answer_is state message request is_request asker found in
    let is_reply : reply_to (names_of state) (rooms_of state) message ≡ (place_answer state.rooms asker.place asker.site request).0 =
    ap (reply_at (rooms_of state) message) owner ∙ ap (λ (o : Outcome). o.0) answer in
    record {
      is_text = replies.is_text ∙ ap reply_text (sym is_reply);
      is_read = replies.is_read ∙ ap Some (sym is_reply);
      shown = owner_shows state message asker.place asker.site request text owner answer legal replies.is_read;
      rooms = asked_after state message request is_request asker found new within rooms uses replies.moves notes;
      names = names;
    }

-- ---- a request about notes

-- the reply to a site of the room at a place
abbrev pub notes_reply : WorldState → Seat → NoteRequest → Reply
notes_reply state seat request =
    NotesOf (length (room_at state.rooms seat.place).entries) (all_notes (notes_after seat.site request (notes_of state.rooms seat.place)))

module _ (state : WorldState) (message : Message) (request : NoteRequest)
    (no_request : request_read message.bytes ≡ None)
    (is_asked : note_request_read message.bytes ≡ Some request)
  where
    owner_by : (seat : Option Seat) → seat_of state.seats message.session ≡ seat → owner_of (names_of state) (rooms_of state) message ≡ option_or (option_map (λ (s : Seat). s.place) seat) None
    owner_by seat e =
        ap (λ s. option_or (option_map (λ (s : Seat). s.place) s) (named_place (names_of state) (request_read message.bytes))) e
        ∙ ap (λ r. option_or (option_map (λ (s : Seat). s.place) seat) (named_place (names_of state) r)) no_request

    -- of a session that is in no room
    pub outside_note : (text : List ℕ) → seat_of state.seats message.session ≡ None → IsTextFor text (No 0 NotJoined) → IsStep state message text state
    outside_note text out t =
        let owner = owner_by None out in
        refusal_answer state message NotJoined text
        (ap (reply_at (rooms_of state) message) owner ∙ ap (λ r. lone_answer r (note_request_read message.bytes)) no_request ∙ ap (lone_answer None) is_asked)
        (ap (after_at (rooms_of state) message) owner) t

    module _ (seat : Seat) (inside : seat_of state.seats message.session ≡ Some seat) where
      in_as : site_at seat.place (seat_of state.seats message.session) ≡ Some seat.site
      in_as = ap (site_at seat.place) inside ∙ ap (λ (b : Bool). cond b (Some seat.site) None) (eq-eqb seat.place seat.place refl)

      elsewhere : (other : ℕ) → eqb seat.place other ≡ false → site_at other (seat_of state.seats message.session) ≡ None
      elsewhere other ne = ap (site_at other) inside ∙ ap (λ (b : Bool). cond b (Some seat.site) None) ne

      outcome_is : alone_answer (alone_at state seat.place) message ≡ reply_alone (notes_reply state seat request)
      outcome_is =
          let alone = alone_at state seat.place in
          ap (λ r. answer_to alone (alone.site_of message.session) r (note_request_read message.bytes)) no_request
          ∙ ap (λ a. answer_to alone (alone.site_of message.session) None a) is_asked
          ∙ ap (λ who. answer_to alone who None (Some request)) in_as

      noted_is : noted_by (site_at seat.place (seat_of state.seats message.session)) (request_read message.bytes) (note_request_read message.bytes) (notes_of state.rooms seat.place)
          ≡ notes_after seat.site request (notes_of state.rooms seat.place)
      noted_is =
          let notes = notes_of state.rooms seat.place in
          ap (λ who. noted_by who (request_read message.bytes) (note_request_read message.bytes) notes) in_as
          ∙ ap (λ r. noted_by (Some seat.site) r (note_request_read message.bytes) notes) no_request
          ∙ ap (λ a. noted_by (Some seat.site) None a notes) is_asked

      -- of a session that is in a room: only the note of its site changes
      pub inside_note : (new : WorldState) (text : List ℕ) → seat.place < length state.rooms → IsTextFor text (notes_reply state seat request)
          → names_of new ≡ names_of state → new.seats ≡ state.seats → rooms_in new.rooms ≡ rooms_in state.rooms → uses_in new.rooms ≡ uses_in state.rooms
          → notes_of_rooms new.rooms ≡ set (notes_of_rooms state.rooms) seat.place (notes_after seat.site request (notes_of state.rooms seat.place))
          → IsStep state message text new
      inside_note new text within t names seats rooms uses notes =
          let owner = owner_by (Some seat) inside in
          let is_reply : reply_to (names_of state) (rooms_of state) message ≡ notes_reply state seat request =
          ap (reply_at (rooms_of state) message) owner ∙ ap (λ (o : Outcome). o.0) outcome_is in
          let changed = rooms_of-changed state new message seat.place (reply_alone (notes_reply state seat request)) within elsewhere outcome_is
          (rooms ∙ sym (set_same (rooms_in state.rooms) seat.place no_room))
          (uses ∙ sym (set_same (uses_in state.rooms) seat.place no_site))
          (λ other. ap (λ s. seat_of s other) seats)
          (notes ∙ ap (set (notes_of_rooms state.rooms) seat.place) (sym noted_is)) in
          record {
            is_text = t.is_text ∙ ap reply_text (sym is_reply);
            is_read = t.is_read ∙ ap Some (sym is_reply);
            shown = λ at object kind versions e. let same : notes_reply state seat request ≡ Versions at object kind versions = cc in absurd (cc);
            rooms = changed ∙ ap (after_at (rooms_of state) message) (sym owner);
            names = names;
          }

pub if_ok_with : {T E Q : Type 0} (r : Result T E) (P R : T → Type 0) → ((x : T) → P x → Q → R x) → IfOk r P → OnOk r Q → IfOk r R
if_ok_with (Ok x) P R f p q = f x p q
if_ok_with (Err y) P R f p q = tt

pub if_ok_and : {T E Q S V : Type 0} (r : Result T E) (P R : T → Type 0) → ((x : T) → P x → Q → S → V → R x) → IfOk r P → OnOk r Q → OnOk r S → OnOk r V → IfOk r R
if_ok_and (Ok x) P R f p q s v = f x p q s v
if_ok_and (Err y) P R f p q s v = tt
