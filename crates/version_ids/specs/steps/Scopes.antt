-- Some of the places of a relation.
use Rattle.std.specs.Prelude.{◌≡◌, ℕ, Bool, ◌||◌, List, [], ◌∷◌, filter}
use Rattle.std.specs.List.{list_any}
use Rattle.places.specs.steps.PlaceSet.{has, places, with_places}

-- s has some of the first n places, in rising order
abbrev pub AreAmong : ℕ → List ℕ → Type 0
AreAmong n s = filter (has s) (places n) ≡ s

-- places with the lower places that those of a list conflict with
abbrev pub with_earlier_conflicts : (ℕ → ℕ → Bool) → List ℕ → List ℕ → List ℕ
with_earlier_conflicts is_conflict set [] = set
with_earlier_conflicts is_conflict set (p ∷ ps) =
    with_earlier_conflicts is_conflict (with_places set (filter (is_conflict p) (places p))) ps

-- does a place conflict with one of the scope? The lower places that those of the scope conflict
-- with are known.
abbrev pub is_conflicting : (ℕ → ℕ → Bool) → List ℕ → List ℕ → ℕ → Bool
is_conflicting is_conflict scope earlier place =
    has earlier place || list_any (has scope) (filter (is_conflict place) (places place))
