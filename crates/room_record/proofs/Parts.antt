-- Parts of a list whose members are seen through a function.
use Rattle.std.proofs.Common.{◌≡◌, ℕ, ◌+◌, ◌-◌, ◌<◌, List, [], ◌∷◌, ◌++◌, length, get_or, map, take, drop, sym, ap, ◌∙◌, slice_get, Some, min, arith}
use Rattle.std.proofs.lemmas.List.{get_or-map, length-drop, length-map, take-map, take_min, take_more, drop-map}
use Rattle.std.proofs.lemmas.Option.{get_or_from_slice_get, slice_get_within}

module _ {X Y : Type 0} (f : X → Y) (xs : List X) where
  -- a page of a list, seen, is that page of the list as it is seen
  pub page_seen : (n from : ℕ) → map f (take n (drop from xs)) ≡ take n (drop from (map f xs))
  page_seen n from = sym (take-map f n (drop from xs)) ∙ ap (take n) (sym (drop-map f from xs))

  -- one more of a prefix, as it is found
  pub found_more : (ys : List Y) (k : ℕ) (a : X) → slice_get xs k ≡ Some a → ys ≡ take k (map f xs) → ys ++ f a ∷ [] ≡ take (k + 1) (map f xs)
  found_more ys k a there prefix =
      let within : k < length (map f xs) = rw length-map (slice_get_within xs k a there) in
      let next : get_or (map f xs) k (f a) ≡ f a = get_or-map f xs k a (f a) (slice_get_within xs k a there) ∙ ap f (get_or_from_slice_get xs k a a there) in
      (λ i. prefix i ++ sym next i ∷ []) ∙ sym (take_more (map f xs) k (f a) within)

  -- a page holds no more than there is
  pub page_counted : (page count : ℕ) → count ≡ min page (length xs) → take count (map f xs) ≡ take page (map f xs)
  page_counted page count e = ap (λ n. take n (map f xs)) (e ∙ ap (min page) (sym (length-map xs f))) ∙ take_min page (map f xs)

-- a page from a place on, as many as there are
pub page_of : {X Y : Type 0} (f : X → Y) (xs : List X) (from page count : ℕ) → count ≡ min page (length xs - from) → map f (take count (drop from xs)) ≡ take page (drop from (map f xs))
page_of f xs from page count is =
    sym (take-map f count (drop from xs))
    ∙ page_counted f (drop from xs) page count (is ∙ ap (min page) (sym (length-drop from xs)))
    ∙ ap (take page) (sym (drop-map f from xs))

-- and of a list that is seen the same
pub page_of_shared : {X Y : Type 0} (f : X → Y) (owners part xs : List X) (from page count size : ℕ) → map f owners ≡ map f (take (from + count - from) (drop from part)) → part ≡ xs
    → count ≡ min page (size - from) → size ≡ length xs → map f owners ≡ take page (drop from (map f xs))
page_of_shared f owners part xs from page count size seen whole counted all =
    seen
    ∙ ap (λ ys. map f (take (from + count - from) (drop from ys))) whole
    ∙ page_of f xs from page (from + count - from) (omega (arith, counted, all))
