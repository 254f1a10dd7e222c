-- A script: lines that come in, and lines that go out.
use Rattle.std.specs.Prelude.{ℕ, ◌^◌, ◌<◌, ◌≡◌, List, [], ◌∷◌, ◌++◌}
use Rattle.std.specs.Prelude.{Option, Some, None, map, filter_map}
use Rattle.std.specs.Fmt.{decimal}
use Rattle.world.specs.Alone.{Message}
use Rattle.world.specs.Rooms.{Rooms}
use Rattle.world.specs.Run.{IsRun}
use Rattle.world.specs.steps.Messages.{message_in}

-- a line is this message: its session's number in digits, a space, and its bytes
pub record IsLineOf (line : List ℕ) (message : Message) : Type 0 where
  pub small : message.session < 2 ^ 32
  pub form : line ≡ decimal message.session ++ 32 ∷ message.bytes

-- what goes out for lines that are these messages, by the texts of the replies to the messages
abbrev pub output_lines : List (Option Message) → List (List ℕ) → List ℕ
output_lines [] texts = []
output_lines (None ∷ lines) texts = 63 ∷ 10 ∷ output_lines lines texts
output_lines (Some message ∷ lines) [] = []
output_lines (Some message ∷ lines) (text ∷ texts) =
    decimal message.session ++ (32 ∷ text) ++ 10 ∷ output_lines lines texts

-- in rooms of these names these lines have this answer, and the rooms are then the new ones
pub record IsScriptRun (names : List (List ℕ)) (old : Rooms) (lines : List (List ℕ))
    (text : List ℕ) (new : Rooms) : Type 0 where
  pub replies : List (List ℕ)
  pub run : IsRun names old (filter_map message_in lines) replies new
  pub output : text ≡ output_lines (map message_in lines) replies
