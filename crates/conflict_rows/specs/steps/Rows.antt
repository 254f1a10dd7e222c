-- The steps by which the conflicts of a change are found: cited by functions that are not public,
-- and by what is stored.
use Rattle.std.specs.Prelude.{ℕ, Bool, not, ◌&&◌, ◌||◌, List, [], ◌∷◌, filter, length, nat_lt}
use Rattle.std.specs.Prelude.{if◌then◌else◌, slice_index_or}
use Rattle.std.specs.List.{list_any}
use Rattle.rules.specs.declared.history.Op.{Op}
use Rattle.rules.specs.declared.history.Body.{Body}
use Rattle.rules.specs.Bodies.{are_at_odds}
use Rattle.rules.specs.Conflicts.{conflict, direct_conflict}
use Rattle.places.specs.steps.PlaceSet.{has, places, with_place, with_places}
use Rattle.places.specs.steps.Changes.{at, base_places, places_counted}

-- ---- the changes of an object

-- the places below one whose changes conflict with the change at it
abbrev pub earlier_conflicts : List Op → ℕ → List ℕ
earlier_conflicts k place =
    filter (λ earlier. conflict k (at k place) (at k earlier)) (places place)

-- is the change at a place in conflict with an earlier one?
abbrev pub has_earlier_conflict : List Op → ℕ → Bool
has_earlier_conflict k place = nat_lt 0 (length (earlier_conflicts k place))

-- the places of those that are in conflict with an earlier one
abbrev pub places_with_earlier_conflict : List Op → List ℕ
places_with_earlier_conflict k = filter (has_earlier_conflict k) (places (length k))

-- is a body at odds with that of the change at a place?
abbrev pub at_odds_at : List Op → Body → ℕ → Bool
at_odds_at k body place = are_at_odds body (at k place).body

-- those of the first n places that are not among these
abbrev pub places_outside : List ℕ → ℕ → List ℕ
places_outside xs n = filter (λ x. not (has xs x)) (places n)

-- the places of the changes that an operation doesn't know
abbrev pub places_unknown : List Op → Op → List ℕ
places_unknown k op = places_outside (places_counted k op.seen) (length k)

-- the places of the changes that are in direct conflict with one that is to be added
abbrev pub direct_places : List Op → Op → List ℕ
direct_places k op = filter (λ place. direct_conflict op (at k place)) (places (length k))

-- is a change that is to be added in conflict with the one at a place? It is in direct conflict
-- with those at some places, and is based on those at the places of a base.
abbrev pub is_in_row : List Op → List ℕ → List ℕ → ℕ → Bool
is_in_row k direct based place =
    list_any (has (place ∷ base_places k (at k place))) direct
    || list_any (λ other. conflict k (at k other) (at k place)) based

-- ---- the rows of places

-- is a place below n in conflict with one of some places that is below n too?
abbrev pub conflicts_below : (ℕ → ℕ → Bool) → List ℕ → ℕ → ℕ → Bool
conflicts_below is_conflict scope n x =
    list_any (λ s. (nat_lt s n && nat_lt x n) && is_conflict x s) scope

-- places with those of a row where its own place is in the scope, and then with its own place where
-- the row has one of the scope
abbrev pub with_row : List ℕ → List ℕ → ℕ → List ℕ → List ℕ
with_row scope row place set =
    let joined = if has scope place then with_places set row else set in
    if list_any (has scope) row then with_place place joined else joined

-- and so with the rows at some places, one after another
abbrev pub with_rows : List ℕ → List (List ℕ) → List ℕ → List ℕ → List ℕ
with_rows scope rows set [] = set
with_rows scope rows set (p ∷ ps) =
    with_rows scope rows (with_row scope (slice_index_or rows p []) p set) ps

-- places with those of a row and the row's own place, if the row has any
abbrev pub with_conflicts : List ℕ → ℕ → List ℕ → List ℕ
with_conflicts [] place set = set
with_conflicts (p ∷ ps) place set = with_place place (with_places set (p ∷ ps))
