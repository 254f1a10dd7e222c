-- Lines that are all read are as many as what they are read as.
use Rattle.std.proofs.Common.{◌≡◌, List, length, map, Option, Some, sym, ap, ◌∙◌}
use Rattle.std.proofs.lemmas.List.{length-map}

module _ {A B : Type 0} (f : A → Option B) where
  pub same_length : (xs : List A) (ys : List B) → map f xs ≡ map Some ys → length ys ≡ length xs
  same_length xs ys e = sym (length-map ys Some) ∙ sym (ap length e) ∙ length-map xs f
