-- One room alone, and the sessions in it.
use Rattle.std.specs.Prelude.{ℕ, ◌==◌, Bool, true, false, List, [], ◌∷◌, Option, Some, None, length}
use Rattle.std.specs.Prelude.{option_map, if◌then◌else◌}
use Rattle.rules.specs.declared.limits.LimitValues.{LimitValues}
use Rattle.rules.specs.declared.refusal.Refusal.TheVariants.{BadMessage, NotJoined}
use Rattle.wire.specs.declared.request.Request.{Request}
use Rattle.wire.specs.declared.request.Request.TheVariants.{Join, Back}
use Rattle.wire.specs.declared.reply.Reply.{Reply}
use Rattle.wire.specs.declared.note.NoteRequest.{NoteRequest}
use Rattle.wire.specs.declared.reply.Reply.TheVariants.{Joined, Returned, Left, No}
use Rattle.wire.specs.declared.reply.Reply.TheVariants.{Notes as NotesOf}
use Rattle.wire.specs.Notes.{Notes, all_notes, no_notes, notes_after, with_note}
use Rattle.wire.specs.Texts.{reply_text}
use Rattle.wire_reader.specs.steps.Reads.{request_read, note_request_read}
use Rattle.room_core.specs.Room.{Room, empty_room, with_entry}
use Rattle.room_core.specs.Answers.{Outcome, reply_alone, join_answer, back_reply, answer}

-- a message: a session's number, and bytes
pub record Message : Type 0 where
  pub session : ℕ
  pub bytes : List ℕ

-- a room, the site of each session that is in it, whether one is in as a site, and the sites' notes
pub record Alone : Type 0 where
  pub room : Room
  pub site_of : ℕ → Option ℕ
  pub in_use : ℕ → Bool
  pub notes : Notes

abbrev pub empty_alone : LimitValues → Alone
empty_alone limits = record {
  room = empty_room limits;
  site_of = λ session. None;
  in_use = λ site. false;
  notes = no_notes;
}

-- the answer to a request or else to one about notes, of a site of the room or of nobody there
abbrev pub answer_to : Alone → Option ℕ → Option Request → Option NoteRequest → Outcome
answer_to alone who None None = reply_alone (No 0 BadMessage)
answer_to alone (Some site) (Some request) asked = answer alone.room site request
answer_to alone (Some site) None (Some asked) = reply_alone
    (NotesOf (length alone.room.entries) (all_notes (notes_after site asked alone.notes)))
answer_to alone None (Some (Join name)) asked = join_answer alone.room
answer_to alone None (Some (Back name site)) asked =
    reply_alone (back_reply alone.room (alone.in_use site) site)
answer_to alone None _ _ = reply_alone (No 0 NotJoined)

-- where a reply puts its session, if it moves it: at a site of the room, or out of it
abbrev pub move_of : Reply → Option (Option ℕ)
move_of (Joined at site) = Some (Some site)
move_of (Returned at site seq) = Some (Some site)
move_of (Left at) = Some None
move_of _ = None

-- what each session stands for after a move of one of them, where a site gives it this
abbrev pub after_move : {A : Type 0} → Option (Option ℕ) → (ℕ → A) → ℕ → (ℕ → Option A) → ℕ
    → Option A
after_move None given session old other = old other
after_move (Some site) given session old other =
    if session == other then option_map given site else old other

-- is somebody in as this site, after a move of a session that was in as one or in none
abbrev pub use_after_move : Option (Option ℕ) → Option ℕ → (ℕ → Bool) → ℕ → Bool
use_after_move (Some (Some now)) was in_use site = if now == site then true else in_use site
use_after_move (Some None) (Some was) in_use site = if was == site then false else in_use site
use_after_move _ _ in_use site = in_use site

-- the notes after a message of a site, if it is about notes
abbrev pub noted_by : Option ℕ → Option Request → Option NoteRequest → Notes → Notes
noted_by (Some site) None (Some asked) notes = notes_after site asked notes
noted_by _ _ _ notes = notes

-- who leaves has no note any more
abbrev pub notes_after_move : Option (Option ℕ) → Option ℕ → Notes → Notes
notes_after_move (Some None) (Some was) notes = with_note was None notes
notes_after_move _ _ notes = notes

abbrev pub alone_answer : Alone → Message → Outcome
alone_answer alone message =
    answer_to alone (alone.site_of message.session)
    (request_read message.bytes) (note_request_read message.bytes)

abbrev pub alone_reply : Alone → Message → Reply
alone_reply alone message = (alone_answer alone message).0

-- the room after a message
abbrev pub alone_after : Alone → Message → Alone
alone_after alone message =
    let who = alone.site_of message.session in
    let move = move_of (alone_reply alone message) in
    record {
      room = with_entry alone.room (alone_answer alone message).1;
      site_of = after_move move (λ site. site) message.session alone.site_of;
      in_use = use_after_move move who alone.in_use;
      notes = notes_after_move move who
          (noted_by who (request_read message.bytes) (note_request_read message.bytes) alone.notes);
    }

-- the texts of the replies to the room's messages, and the room after them
abbrev pub alone_run : Alone → List Message → List (List ℕ) × Alone
alone_run alone [] = ([], alone)
alone_run alone (message ∷ messages) =
    let later = alone_run (alone_after alone message) messages in
    (reply_text (alone_reply alone message) ∷ later.0, later.1)
