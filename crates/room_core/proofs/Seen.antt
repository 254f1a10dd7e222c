-- Elements of lists, as they are seen.
use Rattle.std.proofs.Common.{◌≡◌, ℕ, ◌<◌, List, [], ◌∷◌, ◌++◌, length, get_or, map, refl, sym, ap, ◌∙◌, Some, slice_get}
use Rattle.std.proofs.lemmas.List.{get_or-map, length-map}
use Rattle.std.proofs.lemmas.Option.{slice_get-get_or}

-- an element of a list, as it is seen
pub at_map : {A B : Type 0} (f : A → B) (xs : List A) (k : ℕ) (a : A) → k < length xs → a ≡ get_or xs k a → slice_get (map f xs) k ≡ Some (f a)
at_map f xs k a there is =
    let within : k < length (map f xs) = rw length-map there in
    slice_get-get_or (map f xs) k (f a) within ∙ ap Some (get_or-map f xs k a (f a) there ∙ ap f (sym is))

-- an element behind as many as there are before it
pub at_seam : {A : Type 0} (xs : List A) (x : A) (ys : List A) → slice_get (xs ++ x ∷ ys) (length xs) ≡ Some x
at_seam [] x ys = refl
at_seam (y ∷ xs) x ys = at_seam xs x ys

pub some_same : {A : Type 0} {x y : A} → Some x ≡ Some y → x ≡ y
some_same e = cc
