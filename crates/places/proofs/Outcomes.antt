-- What a call that may fail leaves behind.
use Rattle.std.proofs.Common.{◌≡◌, sym, subst}
use Rattle.std.specs.Prelude.{Result, Ok, Err, OnOk, OnErr}

-- a call that may fail leaves the one value or the other
pub by_result : {X A E : Type 0} (r : Result A E) (P : X → Type 0) (new done old : X) → OnOk r (new ≡ done) → OnErr r (new ≡ old) → P done → P old → P new
by_result (Ok a) P new done old e f p q = subst P (sym e) p
by_result (Err a) P new done old e f p q = subst P (sym f) q
