-- Filters that keep nothing, or everything.
use Rattle.std.proofs.Common.{◌≡◌, Bool, true, false, List, [], ◌∷◌, refl, ap, inl, inr}
use Rattle.std.specs.Prelude.{filter}
use Rattle.rules.proofs.Lists.{In}

pub filter_none : {X : Type 0} (p : X → Bool) (xs : List X) → ((x : X) → In x xs → p x ≡ false) → filter p xs ≡ []
filter_none p [] f = refl
filter_none p (x ∷ xs) f = rw (f x (inl refl)) (filter_none p xs (λ y m. f y (inr m)))

pub filter_all : {X : Type 0} (p : X → Bool) (xs : List X) → ((x : X) → In x xs → p x ≡ true) → filter p xs ≡ xs
filter_all p [] f = refl
filter_all {X} p (x ∷ xs) f = rw (f x (inl refl)) (ap (λ (l : List X). x ∷ l) (filter_all p xs (λ y m. f y (inr m))))
