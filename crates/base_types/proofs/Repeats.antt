-- A step of the search for the first member that stands earlier too.
use Rattle.std.proofs.Common.{◌≡◌, ℕ, ◌+◌, ◌<◌, Bool, List, Some, length, get_or, take, drop, cond, sym, ap, ◌∙◌}
use Rattle.std.specs.List.{list_any}
use Rattle.std.proofs.lemmas.List.{drop_more, take_more}
use Rattle.base_types.specs.Repeats.{repeat_from}

module _ {X : Type 0} (same : X → X → Bool) where
  repeat_more : (xs : List X) (i : ℕ) (x : X) → i < length xs
      → repeat_from same i (take i xs) (drop i xs) ≡ cond (list_any (λ y. same y (get_or xs i x)) (take i xs)) (Some i) (repeat_from same (i + 1) (take (i + 1) xs) (drop (i + 1) xs))
  repeat_more xs i x lt =
      ap (repeat_from same i (take i xs)) (drop_more xs i x lt)
      ∙ ap (λ seen. cond (list_any (λ y. same y (get_or xs i x)) (take i xs)) (Some i) (repeat_from same (i + 1) seen (drop (i + 1) xs))) (sym (take_more xs i x lt))

  -- the member at a place stands earlier, or the search goes on after it
  pub repeat_at : (xs : List X) (i : ℕ) (x : X) → i < length xs → x ≡ get_or xs i x
      → repeat_from same i (take i xs) (drop i xs) ≡ cond (list_any (λ y. same y x) (take i xs)) (Some i) (repeat_from same (i + 1) (take (i + 1) xs) (drop (i + 1) xs))
  repeat_at xs i x lt is = repeat_more xs i x lt ∙ ap (λ (z : X). cond (list_any (λ y. same y z) (take i xs)) (Some i) (repeat_from same (i + 1) (take (i + 1) xs) (drop (i + 1) xs))) (sym is)
