-- Scripts that end early: which lines are answered, and what is written.
use Rattle.std.specs.Prelude.{ℕ, ◌+◌, ◌≡◌, take, List, [], ◌∷◌, Option}
use Rattle.std.specs.Prelude.{if◌then◌else◌}
use Rattle.std.specs.Io.KnownBytes.{Appends, Consumes}
use Rattle.byte_streams.specs.Prefixes.{AppendsPrefix}
use Rattle.wire.specs.Lines.{ends_line, lines_of}
use Rattle.world.specs.Rooms.{Rooms}
use Rattle.world.specs.Script.{IsScriptRun}
use Rattle.world.specs.steps.Answered.{LinesShow}
use Rattle.world.specs.steps.State.{WorldState, names_of, rooms_of}
use Rattle.world.specs.steps.Ends.{lines_out, lines_end}

-- some of the first lines of these bytes were answered, and a prefix of the answers was written
pub record Stops (old new : Option (List ℕ)) (from to : WorldState) (bytes : List ℕ) : Type 0 where
  pub count : ℕ
  pub rooms : rooms_of to ≡ lines_end (names_of from) (rooms_of from) (take count (lines_of bytes))
  pub names : names_of to ≡ names_of from
  pub shown : LinesShow (names_of from) (rooms_of from) (take count (lines_of bytes))
  pub answers : AppendsPrefix old new
      (lines_out (names_of from) (rooms_of from) (take count (lines_of bytes)))

-- the answers to a script are added to what a writer holds
pub record AnswersScript (before after : Option (List ℕ)) (names : List (List ℕ)) (old : Rooms)
    (bytes : List ℕ) (new : Rooms) : Type 0 where
  pub text : List ℕ
  pub adds : Appends before after text
  pub run : IsScriptRun names old (lines_of bytes) text new

-- how many lines end in these bytes
abbrev pub breaks_in : List ℕ → ℕ
breaks_in [] = 0
breaks_in (byte ∷ bytes) = if ends_line byte then breaks_in bytes + 1 else breaks_in bytes

-- the lines that end in these bytes
abbrev pub ended_lines : List ℕ → List (List ℕ)
ended_lines bytes = take (breaks_in bytes) (lines_of bytes)

-- Of the bytes that a reader had left and has left now, some were read: the lines that end in these
-- were answered, and the answers written.
pub record AnswersRead (had has old new : Option (List ℕ)) (from to : WorldState) : Type 0 where
  pub bytes : List ℕ
  pub consumed : Consumes had has bytes
  pub rooms : rooms_of to ≡ lines_end (names_of from) (rooms_of from) (ended_lines bytes)
  pub answers : Appends old new (lines_out (names_of from) (rooms_of from) (ended_lines bytes))
