-- Faults of a transcript's lines, each judged by itself.
use Rattle.std.specs.Prelude.{◌≡◌, ℕ, ◌+◌, true, false, List, [], ◌∷◌, Option, Some, None, All}
use Rattle.std.specs.Prelude.{take, slice_get}
use Rattle.rules.specs.declared.history.Entry.{Entry}
use Rattle.transcript.specs.declared.line.TranscriptLine.{TranscriptLine}
use Rattle.history_check.specs.declared.findings.Fault.{Fault}
use Rattle.history_check.specs.declared.findings.Fault.TheVariants.{NotJoined, WrongReply}
use Rattle.history_check.specs.Transcripts.{room_at_line, may_ask, IsAnswered}

-- the fault of a line, whatever the other lines are
abbrev pub IsFinding : List Entry → TranscriptLine → Option Fault → Type 0
IsFinding r line None = IsAnswered r line
IsFinding r line (Some NotJoined) = may_ask (room_at_line r line) line ≡ false
IsFinding r line (Some WrongReply) = (may_ask (room_at_line r line) line ≡ true) × ¬ IsAnswered r line

-- the first of these lines with a fault, by its place, and the fault
abbrev pub IsFirstFault : List Entry → List TranscriptLine → Option (ℕ × Fault) → Type 0
IsFirstFault r lines None = All (IsAnswered r) lines
IsFirstFault r lines (Some found) =
    All (IsAnswered r) (take found.0 lines)
    × ((line : TranscriptLine) × (slice_get lines found.0 ≡ Some line)
    × IsFinding r line (Some found.1))

-- ---- of all lines

-- one finding for each line, in their order
abbrev pub AreFindings : List Entry → List TranscriptLine → List (Option Fault) → Type 0
AreFindings r [] [] = Unit {0}
AreFindings r (line ∷ lines) (found ∷ findings) =
    IsFinding r line found × AreFindings r lines findings
AreFindings r _ _ = ⊥

-- the first fault of these from this place on, by its place
abbrev pub first_from : ℕ → List (Option Fault) → Option (ℕ × Fault)
first_from place [] = None
first_from place (None ∷ findings) = first_from (place + 1) findings
first_from place (Some fault ∷ findings) = Some (place, fault)

-- the first fault of these, by its place
abbrev pub first_in : List (Option Fault) → Option (ℕ × Fault)
first_in findings = first_from 0 findings
