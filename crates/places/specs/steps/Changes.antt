-- The changes on one object in order of arrival, and their places in that order.
use Rattle.std.specs.Prelude.{◌≡◌, ℕ, Bool, true, List, [], ◌∷◌, ◌++◌, filter, length}
use Rattle.std.specs.Prelude.{slice_index_or, Contains, is_some}
use Rattle.std.specs.List.{list_any}
use Rattle.base_types.specs.Names.{Name}
use Rattle.base_types.specs.Vectors.{Vector, counts}
use Rattle.rules.specs.declared.history.Op.{Op}
use Rattle.rules.specs.declared.history.Body.TheVariants.{New}
use Rattle.rules.specs.Operations.{IsHistory, IsCausallyOrdered, is_change_on}
use Rattle.rules.specs.steps.Histories.{same_op}
use Rattle.rules.specs.Conflicts.{base, conflict, members}
use Rattle.places.specs.steps.PlaceSet.{places}
use Rattle.places.specs.steps.Relations.{places_in_conflict}

-- what a caller sees of the stored changes: their object, the changes in order of arrival, and for
-- how many more there is memory
pub record Changes : Type 0 where
  pub object : Name
  pub ops : List Op
  pub spare : ℕ

-- k is all changes on the object of some history, in causal order; a history has no operation twice
pub record AreChangesOf (object : Name) (k : List Op) : Type 0 where
  pub history : List Op
  pub is_history : IsHistory history
  pub all : filter (is_change_on object) history ≡ k
  pub ordered : IsCausallyOrdered k

-- and each of them has a base
pub record AreChangesOn (object : Name) (k : List Op) : Type 0 where
  pub listed : AreChangesOf object k
  pub based : (x : Op) → Contains k x → is_some (base k x) ≡ true

-- ---- places

-- what stands at a place where no change stands
abbrev pub nothing : Op
nothing = record { name = (0, 0); seen = []; body = New [] [] }

-- the change at a place
abbrev pub at : List Op → ℕ → Op
at k place = slice_index_or k place nothing

-- the places of the changes of g
abbrev pub places_of : List Op → List Op → List ℕ
places_of k g = filter (λ place. list_any (same_op (at k place)) g) (places (length k))

-- the places of the changes that a vector counts
abbrev pub places_counted : List Op → Vector → List ℕ
places_counted k seen = filter (λ place. counts seen (at k place).name) (places (length k))

-- the places of a change's base
abbrev pub base_places : List Op → Op → List ℕ
base_places k op = places_of k (members (base k op))

-- are the changes at two places in conflict?
abbrev pub is_conflict_of : List Op → ℕ → ℕ → Bool
is_conflict_of k i j = conflict k (at k i) (at k j)

-- the places of the changes that conflict with some change
abbrev pub conflicting_places : List Op → List ℕ
conflicting_places k = places_in_conflict (is_conflict_of k) (length k)

-- the places of the changes that conflict with one that is to be added
abbrev pub new_conflicts : List Op → Op → List ℕ
new_conflicts k op = filter (λ place. conflict (k ++ op ∷ []) op (at k place)) (places (length k))

-- ---- a change that is to be added

-- with the places of its base, of the changes that conflict with it, and of all that then conflict
-- with some change
pub record Added : Type 0 where
  pub op : Op
  pub base : List ℕ
  pub row : List ℕ
  pub conflicting : List ℕ

-- it may come next on the object, and its places are right
pub record IsAddition (object : Name) (k : List Op) (a : Added) : Type 0 where
  pub changes : AreChangesOn object (k ++ a.op ∷ [])
  pub base : a.base ≡ base_places k a.op
  pub row : a.row ≡ new_conflicts k a.op
  pub conflicting : a.conflicting ≡ conflicting_places (k ++ a.op ∷ [])
