-- Two rooms that are compared.
use Rattle.std.specs.Prelude.{◌≡◌, ◌≢◌, List}
use Rattle.rules.specs.declared.history.Entry.{Entry}
use Rattle.renewal.specs.Drawn.{drawn}
use Rattle.renewal_text.specs.declared.comparing.Comparison.{Comparison}
use Rattle.renewal_text.specs.declared.comparing.Comparison.TheVariants.{Holds, BadRecord}
use Rattle.renewal_text.specs.declared.comparing.Comparison.TheVariants.{BadNewRecord, Differs}

-- what the comparison of two legal records says of what they draw
abbrev pub AreCompared : List Entry → List Entry → Comparison → Type 0
AreCompared old new Holds = drawn new ≡ drawn old
AreCompared old new Differs = drawn new ≢ drawn old
AreCompared old new (BadRecord number) = ⊥
AreCompared old new (BadNewRecord number) = ⊥
