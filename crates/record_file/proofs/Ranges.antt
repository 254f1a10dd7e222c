-- What holds of each element of a list, one after the other.
use Rattle.std.proofs.Common.{◌≡◌, ◌<◌, ◌≤◌, ℕ, ◌+◌, List, length, get_or, take, sym, subst}
use Rattle.std.specs.Prelude.{All}
use Rattle.std.proofs.lemmas.List.{take_all}
use Rattle.std.proofs.lemmas.List.Elements.{All-more, All-get_or}

module _ {X : Type 0} (P : X → Type 0) where
  pub all_more : (xs : List X) (i : ℕ) (x : X) → i < length xs → x ≡ get_or xs i x → All P (take i xs) → P x → All P (take (i + 1) xs)
  all_more xs i x lt at all here = All-more P xs i x lt all (subst P at here)

  pub all_of_them : (xs : List X) (i : ℕ) → length xs ≤ i → All P (take i xs) → All P xs
  all_of_them xs i le all = subst (All P) (take_all i xs le) all

  pub all_at : (xs : List X) (i : ℕ) (x : X) → i < length xs → x ≡ get_or xs i x → All P xs → P x
  all_at xs i x lt at all = subst P (sym at) (All-get_or P xs i x lt all)
