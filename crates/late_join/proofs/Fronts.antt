-- Fronts of lists, seen through a function, and entries that are taken one after the other.
use Rattle.std.proofs.Common.{◌≡◌, ℕ, ◌+◌, ◌<◌, List, [], ◌∷◌, ◌++◌, length, get_or, map, take, refl, sym, ap, ◌∙◌, Some, append_assoc, slice_get}
use Rattle.std.proofs.lemmas.List.{get_or-map, length-map, take_more}
use Rattle.std.proofs.lemmas.Option.{slice_get_read}
use Rattle.rules.specs.declared.history.Entry.{Entry}
use Rattle.late_join.specs.Replica.{ReplicaState, with_entries, with_taken}

module _ {X : Type 0} (f : X → Entry) (xs : List X) (k : ℕ) (a : X) (there : k < length xs) (is : a ≡ get_or xs k a) where
  within : k < length (map f xs)
  within = rw length-map there

  read : f a ≡ get_or (map f xs) k (f a)
  read = ap f is ∙ sym (get_or-map f xs k a (f a) there)

  -- the entry at a place
  pub entry_at : slice_get (map f xs) k ≡ Some (f a)
  entry_at = slice_get_read (map f xs) (length (map f xs)) k (f a) refl within read

  -- with it, the entries up to the place after it
  pub one_more : (s : ReplicaState) (b : Entry) → b ≡ f a → with_taken (with_entries s (take k (map f xs))) b ≡ with_entries s (take (k + 1) (map f xs))
  one_more s b same =
      let all : take k (map f xs) ++ b ∷ [] ≡ take (k + 1) (map f xs) = ap (λ (e : Entry). take k (map f xs) ++ e ∷ []) (same ∙ read) ∙ sym (take_more (map f xs) k (f a) within) in
      ap (λ t. record { limits = s.limits; taken = t }) (append_assoc s.taken (take k (map f xs)) (b ∷ []) ∙ ap (λ ys. s.taken ++ ys) all)
