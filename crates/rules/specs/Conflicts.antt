-- The base of a change, and conflict. That of Sun and Chen (ACM TOCHI 9(1), 2002) is concurrent, on one
-- object and one attribute, with different values; bases, drops and inherited conflict are our own.
use Rattle.std.specs.Prelude.{◌≡◌, ℕ, zero, suc, ◌+◌, Bool, true, false, ◌&&◌, List, []}
use Rattle.std.specs.Prelude.{◌∷◌, Option, Some, None, Contains, is_some}
use Rattle.std.specs.List.{list_any}
use Rattle.base_types.specs.Vectors.{Vector}
use Rattle.rules.specs.declared.history.Op.{Op}
use Rattle.rules.specs.Bodies.{is_change_body, version_of_body, are_at_odds}
use Rattle.rules.specs.Operations.{before, concurrent, holds_drop, known, name_of, object_of}
use Rattle.rules.specs.Operations.{is_creation_of}
use Rattle.rules.specs.Groups.{group_named}

-- the members of a base; a change without a base is never admitted, and counts as based on nothing
abbrev pub members : Option (List Op) → List Op
members None = []
members (Some g) = g

-- b and what it is based on
abbrev pub with_base : (Op → Option (List Op)) → Op → List Op
with_base base b = b ∷ members (base b)

abbrev pub direct_conflict : Op → Op → Bool
direct_conflict a b = concurrent a b && are_at_odds a.body b.body

-- some member of a's base, or a, conflicts directly with some member of b's base, or b
abbrev pub conflict_by : (Op → Option (List Op)) → Op → Op → Bool
conflict_by base a b =
    list_any (λ x. list_any (direct_conflict x) (with_base base b)) (with_base base a)

abbrev pub total : Vector → ℕ
total [] = 0
total (pair ∷ pairs) = pair.1 + total pairs

-- b's base, if b's vector counts fewer than n operations
abbrev pub base_within : ℕ → List Op → Op → Option (List Op)
base_within zero h b = None
base_within (suc n) h b =
    group_named (conflict_by (base_within n h)) name_of (known h b) (version_of_body b.body)

-- the group of what b knows whose identifier b names; each operation before b counts fewer than b
unfoldable pub base : List Op → Op → Option (List Op)
base h b = base_within (suc (total b.seen)) h b

-- two changes of one object conflict
unfoldable pub conflict : List Op → Op → Op → Bool
conflict h = conflict_by (base h)

abbrev pub has_object : List Op → Op → Bool
has_object h b = list_any (λ a. is_creation_of (object_of b) a && before a b) h

-- each change counts a creation of its object, and has a base, in which there is no drop
pub record IsFounded (h : List Op) : Type 0 where
  pub object : (b : Op) → Contains h b → is_change_body b.body ≡ true → has_object h b ≡ true
  pub based : (b : Op) → Contains h b → is_change_body b.body ≡ true → is_some (base h b) ≡ true
  pub alive : (b : Op) → Contains h b → is_change_body b.body ≡ true
      → holds_drop (members (base h b)) ≡ false
