-- How a past finds its operations by name: what its own functions cite.
use Rattle.std.specs.Prelude.{◌≡◌, ℕ, ◌-◌, ◌≤◌, ◌==◌, ◌&&◌, ◌||◌, nat_lt, Bool, false, not, List, []}
use Rattle.std.specs.Prelude.{length, Option, None, slice_get, slice_index_or, position, Contains}
use Rattle.std.specs.Prelude.{if◌then◌else◌}
use Rattle.std.specs.Option.{option_map_or}
use Rattle.std.specs.List.{list_any}
use Rattle.base_types.specs.Names.{Name, same_name}
use Rattle.base_types.specs.declared.op_name.TheConstants.{MAX_SEQ}
use Rattle.base_types.specs.Vectors.{Vector, counts, covers}
use Rattle.rules.specs.declared.history.Op.{Op}
use Rattle.rules.specs.Operations.{IsHistory, operation}
use Rattle.rules.specs.Admission.{count_at_site}

-- the list of a site, where the first list is that of site 1
abbrev pub places_of_site : List (List ℕ) → ℕ → List ℕ
places_of_site places site = if site == 0 then [] else slice_index_or places (site - 1) []

-- the place of the operation of a name
abbrev pub place_of_name : List (List ℕ) → Name → Option ℕ
place_of_name places name =
    if name.1 == 0 then None else slice_get (places_of_site places name.0) (name.1 - 1)

-- The operations are a history whose sites number them from 1, and the lists have their places, by
-- site and then by number: a name is looked up there, and the length of a list is the number of its
-- site's operations. A site behind the last list has none.
pub record IsIndex (h : List Op) (places : List (List ℕ)) : Type 0 where
  pub history : IsHistory h
  pub numbered : (op : Op) → Contains h op → op.name.1 ≤ count_at_site h op.name.0
  pub found : (name : Name) → place_of_name places name ≡ position (λ op. same_name op.name name) h
  pub count : (site : ℕ) → length (places_of_site places site) ≡ count_at_site h site
  pub small : (site : ℕ) → count_at_site h site ≤ MAX_SEQ

-- the element at a number that counts from 1, if there is one
abbrev pub at_number : {X : Type 0} → List X → ℕ → Option X
at_number xs number = if number == 0 then None else slice_get xs (number - 1)

-- some pair's count is above the number of its site's operations
abbrev pub has_fewer : List Op → Vector → Bool
has_fewer h pairs = list_any (λ pair. nat_lt (count_at_site h pair.0) pair.1) pairs

-- there is an operation of this name, and the vector doesn't cover that one's
abbrev pub lacks : List Op → Vector → Name → Bool
lacks h v name = option_map_or (λ op. not (covers v op.seen)) (operation h name) false

-- there is an operation of the one name and it counts that of the other, or both are the same name
abbrev pub knows : List Op → Name → Name → Bool
knows h name other =
    option_map_or (λ op. counts op.seen other) (operation h name) false || same_name name other

-- the vector lacks something that the operation of one of these names counts, of those that are
-- neither of two names and that the operations of these two don't count
abbrev pub lacks_beyond : List Op → Vector → Name → Name → List Name → Bool
lacks_beyond h v own latest names =
    list_any (λ name. not (knows h own name) && (not (knows h latest name) && lacks h v name)) names
