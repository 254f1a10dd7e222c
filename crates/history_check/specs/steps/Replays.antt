-- Playing a record again beside the lines of a transcript: the steps of the code.
use Rattle.std.specs.Prelude.{◌≡◌, ℕ, ◌+◌, List, [], ◌∷◌, length, take}
use Rattle.std.specs.List.Sorted.{IsPermutation, IsNonDecreasingBy}
use Rattle.rules.specs.declared.history.Entry.{Entry}
use Rattle.room_core.specs.Room.{Room, full_room}
use Rattle.transcript.specs.declared.line.TranscriptLine.{TranscriptLine}
use Rattle.wire.specs.Replies.{at_of}

-- a line's AT and its place, for each line from this place on
abbrev pub timed_from : ℕ → List TranscriptLine → List (ℕ × ℕ)
timed_from place [] = []
timed_from place (line ∷ lines) = (at_of line.reply, place) ∷ timed_from (place + 1) lines

-- each line's AT and its place, by rising AT
pub record AreByTime (lines : List TranscriptLine) (order : List (ℕ × ℕ)) : Type 0 where
  pub same : IsPermutation (timed_from 0 lines) order
  pub rises : IsNonDecreasingBy (λ timed. timed.0) order

-- the room has a prefix of the record
abbrev pub IsRoomOfPrefix : List Entry → Room → Type 0
IsRoomOfPrefix r room = room ≡ full_room (take (length room.entries) r)
