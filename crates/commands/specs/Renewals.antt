-- What the program writes for a record that is renewed, and for two records that are compared.
use Rattle.std.specs.Prelude.{ℕ, List, codes, string_bytes}
use Rattle.wire.specs.Lines.{lines_of}
use Rattle.renewal_text.specs.declared.renewing.RenewedText.{RenewedText}
use Rattle.renewal_text.specs.declared.renewing.RenewedText.TheVariants as renewed
use Rattle.renewal_text.specs.declared.comparing.Comparison.{Comparison}
use Rattle.renewal_text.specs.declared.comparing.Comparison.TheVariants as comparison
use Rattle.renewal_text.specs.Renewing.{IsRenewedText}
use Rattle.renewal_text.specs.Comparing.{IsComparison}
use Rattle.commands.specs.Checks.{numbered_line}
use Rattle.commands.specs.Reports.{Report}

-- the new record or a line, and the exit status
abbrev pub renewed_says : RenewedText → List ℕ × ℕ
renewed_says (renewed.Text text) = (string_bytes text, 0)
renewed_says (renewed.BadRecord number) = (numbered_line (codes "bad record line ") number, 1)
renewed_says (renewed.Declined reason) = (codes "cannot renew\n", 1)

-- what `renew` writes for the bytes of a record
abbrev pub renew_report : Report (List ℕ) RenewedText
renew_report = record { IsRight = λ entries. IsRenewedText (lines_of entries); says = renewed_says }

-- the line and the exit status
abbrev pub comparison_says : Comparison → List ℕ × ℕ
comparison_says comparison.Holds = (codes "holds\n", 0)
comparison_says (comparison.BadRecord number) = (numbered_line (codes "bad record line ") number, 1)
comparison_says (comparison.BadNewRecord number) =
    (numbered_line (codes "bad new record line ") number, 1)
comparison_says comparison.Differs = (codes "differs\n", 1)

-- what `renewed` writes for the bytes of an old and a new record
abbrev pub renewed_report : Report (List ℕ × List ℕ) Comparison
renewed_report = record {
  IsRight = λ records. IsComparison (lines_of records.0) (lines_of records.1);
  says = comparison_says;
}
