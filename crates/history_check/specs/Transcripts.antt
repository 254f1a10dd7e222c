-- True transcripts of a record.
use Rattle.std.specs.Prelude.{◌≡◌, ◌≤◌, ◌+◌, ℕ, Bool, true, false, ◌==◌, List, All, take, length}
use Rattle.std.specs.Prelude.{slice_get, if◌then◌else◌}
use Rattle.std.specs.List.{AllPairs}
use Rattle.rules.specs.declared.history.Entry.{Entry}
use Rattle.rules.specs.Records.{sites}
use Rattle.room_core.specs.Room.{Room, full_room}
use Rattle.room_core.specs.Answers.{Outcome, answer, back_reply, join_answer, has_site, reply_alone}
use Rattle.wire.specs.declared.request.Request.{Request}
use Rattle.wire.specs.declared.request.Request.TheVariants.{Join, Back}
use Rattle.transcript.specs.declared.line.TranscriptLine.{TranscriptLine}
use Rattle.transcript.specs.Lines.{is_join_request}
use Rattle.wire.specs.Replies.{at_of, adds}
use Rattle.transcript.specs.Order.{IsInOrder, IsNext}

-- the room as it was at a line: the first entries of the record
abbrev pub room_at_line : List Entry → TranscriptLine → Room
room_at_line r line = full_room (take (at_of line.reply) r)

-- the answer of the rules to a site's request; no session is in as a site that comes back
abbrev pub due_to : Room → ℕ → Request → Outcome
due_to room site (Join name) = join_answer room
due_to room site (Back name asked) = reply_alone (back_reply room false site)
due_to room site asks = answer room site asks

abbrev pub due : Room → TranscriptLine → Outcome
due room line = due_to room line.site line.request

-- a join is made by the next site, any other request by a site that has joined
abbrev pub has_asker : Room → TranscriptLine → Bool
has_asker room line =
    if is_join_request line.request then line.site == sites room.entries + 1 else has_site room line.site

-- the line is a join, or its site has joined
abbrev pub may_ask : Room → TranscriptLine → Bool
may_ask room line = if is_join_request line.request then true else has_site room line.site

-- the line's reply is that of this outcome; the record has the entry that it reports at its AT
pub record IsGiven (r : List Entry) (outcome : Outcome) (line : TranscriptLine) : Type 0 where
  pub reply : outcome.0 ≡ line.reply
  pub entry : adds line.reply ≡ true → slice_get r (at_of line.reply) ≡ outcome.1

pub record IsAnswered (r : List Entry) (line : TranscriptLine) : Type 0 where
  pub asker : has_asker (room_at_line r line) line ≡ true
  pub given : IsGiven r (due (room_at_line r line) line) line

pub record IsTrueLine (r : List Entry) (line : TranscriptLine) : Type 0 where
  pub within : at_of line.reply ≤ length r
  pub answered : IsAnswered r line

pub record IsTrueTranscript (r : List Entry) (lines : List TranscriptLine) : Type 0 where
  pub each : All (IsTrueLine r) lines
  pub order : AllPairs IsInOrder lines

-- the line may follow these, whatever its reply says besides its AT
pub record MayFollow
    (r : List Entry) (before : List TranscriptLine) (line : TranscriptLine) : Type 0 where
  pub next : IsNext (length r) before line
  pub joined : may_ask (room_at_line r line) line ≡ true
