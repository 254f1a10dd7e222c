-- The pieces of the step, as the functions of the code have them.
use Rattle.std.proofs.Common.{◌≡◌, ℕ, ◌+◌, ◌<◌, Bool, true, false, not, inl, inr, refl, sym, List, [], ◌∷◌, ◌++◌, map, length, ◌∙◌, ap, take, get_or}
use Rattle.std.specs.List.{list_all, list_any, filter}
use Rattle.std.proofs.lemmas.Bool.{cases_Bool}
use Rattle.std.proofs.lemmas.List.{append-nil, take_more, map-append}
use Rattle.std.proofs.lemmas.List.Elements.{filter-append}
use Rattle.rules.proofs.Lists.{In-filter_back}
use Rattle.places.proofs.Places.{below, with_place_last, in_if_has, has_if_in}
use Rattle.places.specs.steps.PlaceSet.{has, with_place}
use Rattle.places.specs.steps.PlaceSet.{AreBelow}
use Rattle.version_groups.specs.steps.Steps.{group_after, candidate, incompatible_groups, is_none_of}

-- what a test keeps of places below n is below n
filtered_below : (p : ℕ → Bool) (n : ℕ) (g : List ℕ) → AreBelow n g → AreBelow n (filter p g)
filtered_below p n g below x t = below x (has_if_in g x (In-filter_back p x g (in_if_has (filter p g) x t)).0)

pub group_with_place : (conflicting : List ℕ) (o : ℕ) (g m : List ℕ) → list_all (is_none_of conflicting) g ≡ true → AreBelow o g → m ≡ with_place o g → m ≡ group_after (is_none_of conflicting) o g
group_with_place conflicting o g m t below e = rw t (e ∙ with_place_last o g below)

pub group_without_place : (conflicting : List ℕ) (o : ℕ) (g m : List ℕ) → list_all (is_none_of conflicting) g ≡ false → m ≡ g → m ≡ group_after (is_none_of conflicting) o g
group_without_place conflicting o g m t e = rw t e

pub candidate_is : (conflicting : List ℕ) (o : ℕ) (g m : List ℕ) → AreBelow o g → m ≡ with_place o (filter (is_none_of conflicting) g) → m ≡ candidate (is_none_of conflicting) o g
candidate_is conflicting o g m below e = e ∙ with_place_last o (filter (is_none_of conflicting) g) (filtered_below (is_none_of conflicting) o g below)

-- none of them, or one
pub none_of_all : (conflicting g : List ℕ) → list_all (is_none_of conflicting) g ≡ not (list_any (has conflicting) g)
none_of_all conflicting [] = refl
none_of_all conflicting (x ∷ xs) = elim (cases_Bool (has conflicting x)) [
  | inl t ↦ rw t refl
  | inr t ↦ rw t (none_of_all conflicting xs)
]

-- one more of a list by a function
pub map_more : (f : List ℕ → List ℕ) (xs ys new : List (List ℕ)) (i : ℕ) (x y : List ℕ) → i < length xs → x ≡ get_or xs i x → ys ≡ map f (take i xs) → y ≡ f x → new ≡ ys ++ y ∷ [] → new ≡ map f (take (i + 1) xs)
map_more f xs ys new i x y l s e h n =
    n
    ∙ (λ j. e j ++ h j ∷ [])
    ∙ sym (ap (map f) (take_more xs i x l) ∙ map-append f (take i xs) (get_or xs i x ∷ []) ∙ ap (λ z. map f (take i xs) ++ f z ∷ []) (sym s))

module _ (p : ℕ → Bool) (xs : List (List ℕ)) (i : ℕ) (x : List ℕ) (l : i < length xs) (s : x ≡ get_or xs i x) where
  one_more : take (i + 1) xs ≡ take i xs ++ x ∷ []
  one_more = take_more xs i x l ∙ ap (λ z. take i xs ++ z ∷ []) (sym s)

  pub incompatible_more : list_all p x ≡ false → incompatible_groups p (take (i + 1) xs) ≡ incompatible_groups p (take i xs) ++ x ∷ []
  incompatible_more t = ap (incompatible_groups p) one_more ∙ rw (filter-append (λ g. not (list_all p g)) (take i xs) (x ∷ []), t)

  pub incompatible_skip : list_all p x ≡ true → incompatible_groups p (take (i + 1) xs) ≡ incompatible_groups p (take i xs)
  incompatible_skip t = ap (incompatible_groups p) one_more ∙ rw (filter-append (λ g. not (list_all p g)) (take i xs) (x ∷ []), t, append-nil (incompatible_groups p (take i xs)))

pub candidates_more : (p : ℕ → Bool) (f : List ℕ → List ℕ) (xs ys new : List (List ℕ)) (i : ℕ) (x y : List ℕ) → i < length xs → x ≡ get_or xs i x → list_all p x ≡ false
    → ys ≡ map f (incompatible_groups p (take i xs)) → y ≡ f x → new ≡ ys ++ y ∷ [] → new ≡ map f (incompatible_groups p (take (i + 1) xs))
candidates_more p f xs ys new i x y l s t e h n =
    n
    ∙ (λ j. e j ++ h j ∷ [])
    ∙ sym (ap (map f) (incompatible_more p xs i x l s t) ∙ map-append f (incompatible_groups p (take i xs)) (x ∷ []))

pub candidates_stay : (p : ℕ → Bool) (f : List ℕ → List ℕ) (xs ys new : List (List ℕ)) (i : ℕ) (x : List ℕ) → i < length xs → x ≡ get_or xs i x → list_all p x ≡ true
    → ys ≡ map f (incompatible_groups p (take i xs)) → new ≡ ys → new ≡ map f (incompatible_groups p (take (i + 1) xs))
candidates_stay p f xs ys new i x l s t e n = n ∙ e ∙ sym (ap (map f) (incompatible_skip p xs i x l s t))

-- where no place conflicts, there are no candidates
pub none_incompatible : (conflicting : List ℕ) (gs : List (List ℕ)) → conflicting ≡ [] → incompatible_groups (is_none_of conflicting) gs ≡ []
none_incompatible conflicting gs e = ap (λ (l : List ℕ). incompatible_groups (is_none_of l) gs) e ∙ none_of gs
  where
    all : (g : List ℕ) → list_all (is_none_of []) g ≡ true
    all [] = refl
    all (x ∷ xs) = all xs

    none_of : (gs : List (List ℕ)) → incompatible_groups (is_none_of []) gs ≡ []
    none_of [] = refl
    none_of (g ∷ gs) = rw (all g) (none_of gs)
