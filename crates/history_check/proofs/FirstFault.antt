-- The first fault of what was found.
use Rattle.std.proofs.Common.{◌≡◌, ℕ, suc, ◌+◌, List, [], ◌∷◌, take, Option, Some, None, refl, subst, arith}
use Rattle.std.specs.Prelude.{slice_get, All}
use Rattle.std.proofs.lemmas.List.Elements.{All-nil, All-cons}
use Rattle.rules.specs.declared.history.Entry.{Entry}
use Rattle.transcript.specs.declared.line.TranscriptLine.{TranscriptLine}
use Rattle.history_check.specs.declared.findings.Fault.{Fault}
use Rattle.history_check.specs.steps.Findings.{IsFinding, IsFirstFault, AreFindings, first_from, first_in}
use Rattle.history_check.specs.Transcripts.{IsAnswered}

-- a fault so many lines on
record IsFoundAt (r : List Entry) (lines : List TranscriptLine) (from place : ℕ) (fault : Fault) : Type 0 where
  pub on : ℕ
  pub place_is : place ≡ from + on
  pub before : All (IsAnswered r) (take on lines)
  pub line : TranscriptLine
  pub stands : slice_get lines on ≡ Some line
  pub finding : IsFinding r line (Some fault)

IsFirstFrom : List Entry → List TranscriptLine → ℕ → Option (ℕ × Fault) → Type 0
IsFirstFrom r lines from None = All (IsAnswered r) lines
IsFirstFrom r lines from (Some found) = IsFoundAt r lines from found.0 found.1

one_on : (r : List Entry) (line : TranscriptLine) (lines : List TranscriptLine) (from : ℕ) (q : Option (ℕ × Fault)) → IsAnswered r line → IsFirstFrom r lines (from + 1) q → IsFirstFrom r (line ∷ lines) from q
unfolding IsFirstFrom
one_on r line lines from None answered rest = All-cons (IsAnswered r) line lines answered rest
one_on r line lines from (Some found) answered rest = record {
  on = suc rest.on;
  place_is = (let e = rest.place_is in omega (arith, e));
  before = All-cons (IsAnswered r) line (take rest.on lines) answered rest.before;
  line = rest.line;
  stands = rest.stands;
  finding = rest.finding;
}

first_of_findings : (r : List Entry) (lines : List TranscriptLine) (findings : List (Option Fault)) (from : ℕ) → AreFindings r lines findings → IsFirstFrom r lines from (first_from from findings)
unfolding IsFirstFrom
first_of_findings r [] [] from found = All-nil (IsAnswered r)
first_of_findings r [] (f ∷ findings) from found = absurd found
first_of_findings r (line ∷ lines) [] from found = absurd found
first_of_findings r (line ∷ lines) (None ∷ findings) from found = one_on r line lines from (first_from (from + 1) findings) found.0 (first_of_findings r lines findings (from + 1) found.1)
first_of_findings r (line ∷ lines) (Some fault ∷ findings) from found =
    record { on = 0; place_is = omega arith; before = All-nil (IsAnswered r); line = line; stands = refl; finding = found.0 }

from_start : (r : List Entry) (lines : List TranscriptLine) (q : Option (ℕ × Fault)) → IsFirstFrom r lines 0 q → IsFirstFault r lines q
unfolding IsFirstFrom
from_start r lines None first = first
from_start r lines (Some found) first =
    let e : first.on ≡ found.0 = (let p = first.place_is in omega (arith, p)) in
    (subst (λ n. All (IsAnswered r) (take n lines)) e first.before, (first.line, subst (λ n. slice_get lines n ≡ Some first.line) e first.stands, first.finding))

pub first_fault : (r : List Entry) (lines : List TranscriptLine) (findings : List (Option Fault)) → AreFindings r lines findings → IsFirstFault r lines (first_in findings)
first_fault r lines findings found = from_start r lines (first_in findings) (first_of_findings r lines findings 0 found)
