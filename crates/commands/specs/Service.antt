-- The effect of a script.
use Rattle.std.specs.Prelude.{ℕ, ◌≡◌, ◌⊎◌, List, Option, IsSome, length, take}
use Rattle.std.specs.Io.KnownBytes.{Appends}
use Rattle.rules.specs.Limits.{full_limits}
use Rattle.wire.specs.Lines.{lines_of}
use Rattle.world.specs.Rooms.{Rooms, AreEmpty}
use Rattle.byte_streams.specs.Prefixes.{AppendsPrefix}
use Rattle.world.specs.Script.{IsScriptRun}
use Rattle.commands.specs.Names.{mistake_in}

-- in empty rooms of these names with full limits these lines are answered by this text
pub record IsAnswered (names lines : List (List ℕ)) (text : List ℕ) : Type 0 where
  pub start : Rooms
  pub end : Rooms
  pub empty : AreEmpty full_limits (length names) start
  pub run : IsScriptRun names start lines text end

-- the answers to the lines of these bytes are appended to what a writer holds
abbrev pub Serves : Option (List ℕ) → Option (List ℕ) → List (List ℕ) → List ℕ → Type 0
Serves before after names bytes =
    (text : List ℕ) × IsAnswered names (lines_of bytes) text × Appends before after text

-- a prefix of the answers to some first lines is appended
abbrev pub ServesPrefix : Option (List ℕ) → Option (List ℕ) → List (List ℕ) → List ℕ → Type 0
ServesPrefix before after names bytes = (count : ℕ) × (text : List ℕ)
    × IsAnswered names (take count (lines_of bytes)) text × AppendsPrefix before after text

-- the possible statuses
pub record IsStatus (names : List (List ℕ)) (status : ℕ) : Type 0 where
  pub known : (status ≡ 0) ⊎ (status ≡ 2) ⊎ (status ≡ 3) ⊎ (status ≡ 4)
  pub two : status ≡ 2 → IsSome (mistake_in names)
  pub mistake : IsSome (mistake_in names) → (status ≡ 2) ⊎ (status ≡ 4)
