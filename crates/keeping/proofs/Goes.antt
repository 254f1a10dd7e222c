-- What is kept after more was put behind it.
use Rattle.std.proofs.Common.{◌≡◌, ℕ, List, ◌++◌, Option, Some, None, option_map, sym, subst}
use Rattle.std.specs.Prelude.{IfSome}
use Rattle.rules.specs.declared.history.Entry.{Entry}
use Rattle.record_file.specs.RecordText.{AreLines}
use Rattle.record_file.proofs.Lines.{goes_on}

pub kept_more : (kept kept' : Option (List ℕ)) (entries news : List Entry) (text : List ℕ)
    → IfSome kept (λ bytes. AreLines bytes entries) → kept' ≡ option_map (λ bytes. bytes ++ text) kept → AreLines text news
    → IfSome kept' (λ bytes. AreLines bytes (entries ++ news))
kept_more None kept' entries news text old now lines = subst (λ o. IfSome o (λ bytes. AreLines bytes (entries ++ news))) (sym now) tt
kept_more (Some k) kept' entries news text old now lines =
    subst (λ o. IfSome o (λ bytes. AreLines bytes (entries ++ news))) (sym now) (goes_on k text entries news old lines)
