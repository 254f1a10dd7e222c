-- Helpers of proofs: what was answered so far of a script that is read in parts.
use Rattle.std.specs.Prelude.{ℕ, ◌≡◌, ◌≤◌, List, [], ◌∷◌, ◌++◌, length, map, take, Option, Some}
use Rattle.std.specs.Prelude.{None}
use Rattle.std.specs.Io.KnownBytes.{Appends}
use Rattle.wire.specs.Lines.{lines_of}
use Rattle.wire.specs.steps.OneLine.{IsOneLine}
use Rattle.wire.specs.Texts.{reply_text}
use Rattle.world.specs.declared.script.TheConstants.{LINE_LIMIT}
use Rattle.world.specs.Alone.{Message}
use Rattle.world.specs.Rooms.{Rooms}
use Rattle.world.specs.steps.State.{WorldState, names_of, rooms_of}
use Rattle.world.specs.steps.OwnerShown.{ShowsGroups}
use Rattle.world.specs.steps.Messages.{message_in}
use Rattle.world.specs.steps.Ends.{end_of, reply_to, text_for, rooms_for, lines_out, lines_end}

-- as much of a line as is kept
abbrev pub kept_part : List ℕ → List ℕ
kept_part line = take LINE_LIMIT line

-- a line whose end has not come, as much as is kept of it
pub record IsHeld (line : List ℕ) : Type 0 where
  pub clean : IsOneLine line
  pub short : length line ≤ LINE_LIMIT

-- where the answers to a line, and to lines, show objects, these have their groups
abbrev pub LineShows : List (List ℕ) → Rooms → Option Message → Type 0
LineShows names rooms None = Unit {0}
LineShows names rooms (Some message) =
    ShowsGroups names rooms message (reply_text (reply_to names rooms message))

abbrev pub LinesShow : List (List ℕ) → Rooms → List (List ℕ) → Type 0
LinesShow names rooms [] = Unit {0}
LinesShow names rooms (line ∷ lines) =
    LineShows names rooms (message_in line)
    × LinesShow names (rooms_for names rooms (message_in line)) lines

-- the line that goes out for a line that comes in
abbrev pub line_text : WorldState → List ℕ → List ℕ
line_text state line = text_for (names_of state) (rooms_of state) (message_in line)

-- the line was answered
pub record IsPastLine (old : WorldState) (line : List ℕ) (new : WorldState) : Type 0 where
  pub rooms : rooms_of new ≡ rooms_for (names_of old) (rooms_of old) (message_in line)
  pub names : names_of new ≡ names_of old
  pub shown : LineShows (names_of old) (rooms_of old) (message_in line)

-- the last lines were answered
pub record IsPastEnd (old : WorldState) (bytes : List ℕ) (new : WorldState) : Type 0 where
  pub rooms : rooms_of new ≡ end_of old bytes
  pub names : names_of new ≡ names_of old
  pub shown : LinesShow (names_of old) (rooms_of old) (lines_of bytes)

-- Of the bytes that were taken some lines were answered by this text, which leads from a state to
-- another, and other bytes are held: whatever comes after, the lines are those that were answered
-- and then those that begin with the held bytes, as far as lines are kept.
pub record Answered (from to : WorldState) (taken held text : List ℕ) : Type 0 where
  pub lines : List (List ℕ)
  pub rooms : rooms_of to ≡ lines_end (names_of from) (rooms_of from) lines
  pub names : names_of to ≡ names_of from
  pub is_text : text ≡ lines_out (names_of from) (rooms_of from) lines
  pub shown : LinesShow (names_of from) (rooms_of from) lines
  pub same : (rest : List ℕ)
      → map kept_part (lines_of (taken ++ rest)) ≡ map kept_part (lines ++ lines_of (held ++ rest))

-- the text was added to the answers
pub record Adds (from to : WorldState) (taken held before after : List ℕ) : Type 0 where
  pub text : List ℕ
  pub added : after ≡ before ++ text
  pub answered : Answered from to taken held text

-- some of the lines were answered
pub record AnswersSome (from to : WorldState) (taken : List ℕ) : Type 0 where
  pub held : List ℕ
  pub text : List ℕ
  pub answered : Answered from to taken held text

-- a prefix of the answers was written, and the others are pending
pub record Hands (old new : Option (List ℕ)) (before after : List ℕ) : Type 0 where
  pub prefix : List ℕ
  pub adds : Appends old new prefix
  pub whole : before ≡ prefix ++ after

pub record Wrote (old new : Option (List ℕ)) (from to : WorldState)
    (taken held pending : List ℕ) : Type 0 where
  pub written : List ℕ
  pub adds : Appends old new written
  pub answered : Answered from to taken held (written ++ pending)

pub record WroteSome (old new : Option (List ℕ)) (from to : WorldState)
    (taken : List ℕ) : Type 0 where
  pub held : List ℕ
  pub pending : List ℕ
  pub wrote : Wrote old new from to taken held pending
