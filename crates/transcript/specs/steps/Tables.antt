-- Tables by site and by place, which decide in constant time whether a line may come next.
use Rattle.std.specs.Prelude.{◌≡◌, ◌≢◌, ◌↔◌, ◌≤◌, ◌+◌, ℕ, Bool, true, false, List, All, length}
use Rattle.std.specs.Prelude.{slice_index_or, Option, Some, None}
use Rattle.base_types.specs.declared.op_name.TheConstants.{MAX_SITE}
use Rattle.transcript.specs.declared.line.TranscriptLine.{TranscriptLine}
use Rattle.transcript.specs.Lines.{entries_after}
use Rattle.wire.specs.Replies.{at_of, adds}
use Rattle.transcript.specs.steps.Reads.{line_read}
use Rattle.transcript.specs.Order.{IsNext}
use Rattle.transcript.specs.steps.OrderedParts.{AreInOrder, IsNoNext}

-- lines in order, of a record with `count` entries
pub record OrderedLines : Type 0 where
  pub count : ℕ
  pub lines : List TranscriptLine

-- no line of the site ends with more than `at` entries
abbrev pub IsReached : List TranscriptLine → ℕ → ℕ → Type 0
IsReached lines site at = All (λ line. line.site ≡ site → entries_after line.reply ≤ at) lines

-- no line reports that it added the entry at this place
abbrev pub IsFree : List TranscriptLine → ℕ → Type 0
IsFree lines place = All (λ line. adds line.reply ≡ true → at_of line.reply ≢ place) lines

-- these are the tables of the lines, which are in order
pub record AreTables
    (ordered : OrderedLines) (reached : List ℕ) (claimed : List Bool) : Type 0 where
  pub sites : length reached ≡ MAX_SITE + 1
  pub places : length claimed ≡ ordered.count + 1
  pub reaches : (site at : ℕ) → site ≤ MAX_SITE
      → (slice_index_or reached site 0 ≤ at) ↔ IsReached ordered.lines site at
  pub frees : (place : ℕ) → place ≤ ordered.count
      → (slice_index_or claimed place false ≡ false) ↔ IsFree ordered.lines place
  pub order : AreInOrder ordered.count ordered.lines

-- the line that these bytes encode, if it may come next; otherwise nothing
abbrev pub IsNextIn : OrderedLines → List ℕ → Option TranscriptLine → Type 0
IsNextIn ordered bytes (Some line) =
    (line_read bytes ≡ Some line) × IsNext ordered.count ordered.lines line
IsNextIn ordered bytes None = IsNoNext ordered.count ordered.lines bytes
