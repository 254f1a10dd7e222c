-- Histories of operations, and causal order by state vectors (Sun and Chen, ACM TOCHI 9(1), 2002).
use Rattle.std.specs.Prelude.{◌≡◌, ◌+◌, ◌≤◌, Bool, true, not, ◌&&◌, List, Option, IsTrue, filter}
use Rattle.std.specs.Prelude.{find, Contains, [], ◌∷◌}
use Rattle.std.specs.List.{list_any}
use Rattle.std.specs.declared.cmp.Ordering.{Ordering}
use Rattle.std.specs.Ordering.{on}
use Rattle.base_types.specs.Names.{Name, name_cmp, same_name}
use Rattle.base_types.specs.Vectors.{count_of, counts, is_vector}
use Rattle.rules.specs.declared.history.Op.{Op}
use Rattle.rules.specs.Bodies.{is_change_body, is_drop_body, object_of_body}
use Rattle.rules.specs.Lists.{HasNoRepeats, sort_by}

abbrev pub name_of : Op → Name
name_of op = op.name

abbrev pub by_name : Op → Op → Ordering
by_name = on name_of name_cmp

-- the object that an operation creates or changes
abbrev pub object_of : Op → Name
object_of op = object_of_body op.name op.body

-- the operation creates the object or changes it
abbrev pub is_on : Name → Op → Bool
is_on object op = same_name (object_of op) object

abbrev pub is_change_on : Name → Op → Bool
is_change_on object op = is_change_body op.body && is_on object op

abbrev pub is_creation_of : Name → Op → Bool
is_creation_of object op = not (is_change_body op.body) && same_name op.name object

abbrev pub operation : List Op → Name → Option Op
operation h name = find (λ op. same_name op.name name) h

abbrev pub creation_of : List Op → Name → Option Op
creation_of h object = find (is_creation_of object) h

-- A history, listed in any order. Its vectors count only operations of the history, of the own site
-- exactly the earlier ones, and with each operation everything that this operation counts.
pub record IsHistory (h : List Op) : Type 0 where
  pub once : HasNoRepeats h
  pub distinct : (a b : Op) → Contains h a → Contains h b → a.name ≡ b.name → a ≡ b
  pub vector : (o : Op) → Contains h o → is_vector o.seen ≡ true
  pub own : (o : Op) → Contains h o → count_of o.seen o.name.0 + 1 ≡ o.name.1
  pub present : (o : Op) (n : Name) → Contains h o → 1 ≤ n.1 → IsTrue (counts o.seen n)
      → (a : Op) × Contains h a × (a.name ≡ n)
  pub closed : (a b : Op) (n : Name) → Contains h a → Contains h b → IsTrue (counts b.seen a.name)
      → IsTrue (counts a.seen n) → IsTrue (counts b.seen n)

-- on a history it is causal order
abbrev pub before : Op → Op → Bool
before a b = counts b.seen a.name

abbrev pub concurrent : Op → Op → Bool
concurrent a b = not (before a b) && not (before b a)

-- no operation is listed before one that precedes it
abbrev pub IsCausallyOrdered : List Op → Type 0
IsCausallyOrdered [] = Unit {0}
IsCausallyOrdered (x ∷ xs) = ((y : Op) → Contains xs y → IsTrue (not (before y x)))
    × IsCausallyOrdered xs

-- all changes of an object, in order of name
unfoldable pub changes_on : List Op → Name → List Op
changes_on h object = sort_by by_name (filter (is_change_on object) h)

-- what b knows: the changes of its object that are before it
unfoldable pub known : List Op → Op → List Op
known h b = filter (λ a. before a b) (changes_on h (object_of b))

abbrev pub holds_drop : List Op → Bool
holds_drop changes = list_any (λ op. is_drop_body op.body) changes
