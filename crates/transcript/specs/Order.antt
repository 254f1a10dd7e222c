-- The order of a transcript's lines.
use Rattle.std.specs.Prelude.{◌≡◌, ◌≢◌, ◌≤◌, ℕ, true, List, All}
use Rattle.transcript.specs.declared.line.TranscriptLine.{TranscriptLine}
use Rattle.transcript.specs.Lines.{entries_after}
use Rattle.wire.specs.Replies.{at_of, adds}

-- they do not report the same entry, and a site continues from where its earlier line ended
pub record IsInOrder (earlier later : TranscriptLine) : Type 0 where
  pub places : adds earlier.reply ≡ true → adds later.reply ≡ true
      → at_of earlier.reply ≢ at_of later.reply
  pub rises : earlier.site ≡ later.site → entries_after earlier.reply ≤ at_of later.reply

-- this line may come next after these, in a transcript of a record with `count` entries
pub record IsNext (count : ℕ) (before : List TranscriptLine) (line : TranscriptLine) : Type 0 where
  pub within : at_of line.reply ≤ count
  pub order : All (λ earlier. IsInOrder earlier line) before
