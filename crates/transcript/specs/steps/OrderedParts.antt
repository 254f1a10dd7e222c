-- The first lines of a transcript that are in form and in order.
use Rattle.std.specs.Prelude.{◌≡◌, ℕ, Bool, true, false, List, [], ◌∷◌, ◌++◌, Some, map, ◌≤◌, All}
use Rattle.std.specs.List.{AllPairs}
use Rattle.transcript.specs.declared.line.TranscriptLine.{TranscriptLine}
use Rattle.transcript.specs.steps.Reads.{line_read}
use Rattle.transcript.specs.Order.{IsNext, IsInOrder}
use Rattle.wire.specs.Replies.{at_of}

-- these lines are in order, in a transcript of a record with `count` entries
pub record AreInOrder (count : ℕ) (lines : List TranscriptLine) : Type 0 where
  pub within : All (λ line. at_of line.reply ≤ count) lines
  pub order : AllPairs IsInOrder lines

-- the first lines of a transcript, and whether reading stopped before its end
pub record OrderedPartView : Type 0 where
  pub lines : List TranscriptLine
  pub stopped : Bool

-- these bytes are no line that may come next after these lines
abbrev pub IsNoNext : ℕ → List TranscriptLine → List ℕ → Type 0
IsNoNext count before bytes =
    (line : TranscriptLine) → line_read bytes ≡ Some line → ¬ IsNext count before line

-- what remains where reading ends: nothing, or a line that may not come next
abbrev pub EndsBefore : ℕ → OrderedPartView → List (List ℕ) → Type 0
EndsBefore count part [] = part.stopped ≡ false
EndsBefore count part (bytes ∷ later) = (part.stopped ≡ true) × IsNoNext count part.lines bytes

-- the lines of a file, up to the first that is not in form or may not come next
pub record IsOrderedPart (count : ℕ) (file : List (List ℕ)) (part : OrderedPartView) : Type 0 where
  pub heads : List (List ℕ)
  pub rest : List (List ℕ)
  pub whole : file ≡ heads ++ rest
  pub read : map line_read heads ≡ map Some part.lines
  pub order : AreInOrder count part.lines
  pub ends : EndsBefore count part rest
