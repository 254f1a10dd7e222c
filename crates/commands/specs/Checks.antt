-- What the program reports on a record and a transcript of it.
use Rattle.std.specs.Prelude.{◌≡◌, ◌↔◌, ◌++◌, ◌∷◌, [], ℕ, List, codes}
use Rattle.std.specs.Fmt.{decimal}
use Rattle.history_check.specs.declared.verdict.Verdict.{Verdict}
use Rattle.history_check.specs.declared.verdict.Verdict.TheVariants.{Holds, BadRecord}
use Rattle.history_check.specs.declared.verdict.Verdict.TheVariants.{BadTranscript, WrongReply}
use Rattle.history_check.specs.Verdicts.{AreTrue, IsVerdict}
use Rattle.commands.specs.Reports.{Report}

abbrev pub numbered_line : List ℕ → ℕ → List ℕ
numbered_line words number = words ++ decimal number ++ 10 ∷ []

-- the line and the exit status
abbrev pub verdict_says : Verdict → List ℕ × ℕ
verdict_says Holds = (codes "holds\n", 0)
verdict_says (BadRecord number) = (numbered_line (codes "bad record line ") number, 1)
verdict_says (BadTranscript number) = (numbered_line (codes "bad transcript line ") number, 1)
verdict_says (WrongReply number) = (numbered_line (codes "wrong reply line ") number, 1)

-- the verdict on these bytes of a record and of a transcript
pub record IsRightVerdict (entries transcript : List ℕ) (verdict : Verdict) : Type 0 where
  pub found : IsVerdict entries transcript verdict
  pub holds : (verdict ≡ Holds) ↔ AreTrue entries transcript

-- what `check` writes for the bytes of a record and of a transcript
abbrev pub check_report : Report (List ℕ × List ℕ) Verdict
check_report = record { IsRight = λ files. IsRightVerdict files.0 files.1; says = verdict_says }
