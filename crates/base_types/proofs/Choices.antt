-- What it says of a choice, or of an option, that it is none.
use Rattle.std.proofs.Common.{◌≡◌, Bool, true, false, Option, Some, None, refl, cond}
use Rattle.std.specs.Prelude.{is_none}
use Rattle.std.specs.Option.{option_or}

pub not_first : {X : Type 0} (b : Bool) (x : X) (z : Option X) → cond b (Some x) z ≡ None → (b ≡ false) × (z ≡ None)
not_first true x z e = absurd cc
not_first false x z e = (refl, e)

pub none_if : {X : Type 0} (r : Option X) → is_none r ≡ true → r ≡ None
none_if None e = refl
none_if (Some x) e = absurd cc

pub none_both : {X : Type 0} (a b : Option X) → option_or a b ≡ None → (a ≡ None) × (b ≡ None)
none_both None b e = (refl, e)
none_both (Some x) b e = absurd cc
