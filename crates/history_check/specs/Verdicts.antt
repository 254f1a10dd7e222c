-- The verdict on a record and a transcript.
use Rattle.std.specs.Prelude.{◌≡◌, ℕ, List, Some, map}
use Rattle.rules.specs.declared.history.Entry.{Entry}
use Rattle.wire.specs.Lines.{lines_of}
use Rattle.transcript.specs.declared.line.TranscriptLine.{TranscriptLine}
use Rattle.transcript.specs.steps.Reads.{line_read}
use Rattle.history_check.specs.declared.verdict.Verdict.{Verdict}
use Rattle.history_check.specs.declared.verdict.Verdict.TheVariants.{Holds, BadRecord}
use Rattle.history_check.specs.declared.verdict.Verdict.TheVariants.{BadTranscript, WrongReply}
use Rattle.restore.specs.Records.{AreRecord, IsBadRecord, IsSplit}
use Rattle.history_check.specs.Transcripts.{IsTrueTranscript, MayFollow, IsAnswered}

pub record AreTranscript
    (r : List Entry) (lines : List (List ℕ)) (said : List TranscriptLine) : Type 0 where
  pub read : map line_read lines ≡ map Some said
  pub holds : IsTrueTranscript r said

-- the bytes of these files are a legal record and a true transcript of it
pub record AreTrue (entries transcript : List ℕ) : Type 0 where
  pub r : List Entry
  pub said : List TranscriptLine
  pub legal : AreRecord (lines_of entries) r
  pub holds : AreTranscript r (lines_of transcript) said

-- the lines before this one are a true transcript, and this line is faulty after them
pub record FailsAt
    (r : List Entry) (lines : List (List ℕ)) (number : ℕ)
    (IsFaulty : List TranscriptLine → List ℕ → Type 0) : Type 0 where
  pub front : List (List ℕ)
  pub line : List ℕ
  pub split : IsSplit lines front line number
  pub said : List TranscriptLine
  pub before : AreTranscript r front said
  pub faulty : IsFaulty said line

-- the bytes are not in form, or their line may not follow these
abbrev pub IsBadLine : List Entry → List TranscriptLine → List ℕ → Type 0
IsBadLine r before bytes =
    (line : TranscriptLine) → line_read bytes ≡ Some line → ¬ MayFollow r before line

-- the line may follow these, and is not what the rules answer
pub record IsWrongLine (r : List Entry) (before : List TranscriptLine) (bytes : List ℕ) : Type 0 where
  pub line : TranscriptLine
  pub read : line_read bytes ≡ Some line
  pub follows : MayFollow r before line
  pub wrong : ¬ IsAnswered r line

abbrev pub IsVerdictOn : List Entry → List (List ℕ) → Verdict → Type 0
IsVerdictOn r lines Holds = (said : List TranscriptLine) × AreTranscript r lines said
IsVerdictOn r lines (BadTranscript number) = FailsAt r lines number (IsBadLine r)
IsVerdictOn r lines (WrongReply number) = FailsAt r lines number (IsWrongLine r)
IsVerdictOn r lines (BadRecord number) = ⊥

abbrev pub IsVerdict : List ℕ → List ℕ → Verdict → Type 0
IsVerdict entries transcript (BadRecord number) = IsBadRecord (lines_of entries) number
IsVerdict entries transcript verdict =
    (r : List Entry) × AreRecord (lines_of entries) r × IsVerdictOn r (lines_of transcript) verdict
