-- What one more entry does to the objects of a record with their changes.
use Rattle.std.proofs.Common.{◌≡◌, ◌+◌, true, false, not, List, [], ◌∷◌, ◌++◌, length, sym, ap, ◌∙◌, None, Some, cond}
use Rattle.std.specs.Prelude.{filter}
use Rattle.std.specs.List.{IsDistinct}
use Rattle.std.specs.Map.{keys_of, lookup, set_value}
use Rattle.std.proofs.lemmas.List.{append-nil, length_push}
use Rattle.base_types.specs.Names.{Name, same_name}
use Rattle.rules.specs.declared.history.Op.{Op}
use Rattle.rules.specs.declared.history.Entry.{Entry}
use Rattle.rules.specs.declared.history.Entry.TheVariants.{Operation}
use Rattle.rules.specs.declared.limits.LimitValues.{LimitValues}
use Rattle.rules.specs.Bodies.{is_change_body}
use Rattle.rules.specs.Operations.{is_change_on, object_of}
use Rattle.rules.specs.Records.{objects, operation_in, operations}
use Rattle.rules.proofs.Lists.{In}
use Rattle.rules.proofs.Records.{filter-push, objects-alone, objects-creation, operations-alone, operations-push}
use Rattle.shape.specs.steps.Objects.{Stored, with_change}
use Rattle.drawing.specs.steps.Objects.{objects_with_changes, without_spare}
use Rattle.drawing.proofs.WithChanges.{objects_with_changes_at, objects_with_changes_push, objects_with_changes_set}

-- a change creates nothing
pub objects-change : (r : List Entry) (o : Op) → is_change_body o.body ≡ true → objects (r ++ Operation o ∷ []) ≡ objects r
objects-change r o t =
    ap (λ (h : List Op). filter (λ op. not (is_change_body op.body)) h) (operations-push r o)
    ∙ filter-push (λ (op : Op). not (is_change_body op.body)) (operations r) o
    ∙ ap (λ b. objects r ++ cond (not b) (o ∷ []) []) t
    ∙ append-nil (objects r)

-- a creation creates one object
pub length-objects-creation : (r : List Entry) (o : Op) → is_change_body o.body ≡ false → length (objects (r ++ Operation o ∷ [])) ≡ length (objects r) + 1
length-objects-creation r o f = ap length (objects-creation r o f) ∙ length_push (objects r) o

module _ (l : LimitValues) (r : List Entry) (shapes : List (Name × Stored)) (are : without_spare shapes ≡ objects_with_changes l r) where
  -- an entry that is no operation changes none
  pub with_alone : (e : Entry) → operation_in e ≡ None → without_spare shapes ≡ objects_with_changes l (r ++ e ∷ [])
  with_alone e none = are ∙ (λ i. objects_with_changes_at l (sym (operations-alone r e none) i) (sym (objects-alone r e none) i))

  -- a creation's object goes last
  pub with_creation : (o : Op) (d : Stored) → is_change_body o.body ≡ false → ((x : Op) → In x (operations r) → is_change_on o.name x ≡ false) → d.object ≡ record { limits = l; creation = o; changes = [] }
      → without_spare (shapes ++ (o.name, d) ∷ []) ≡ objects_with_changes l (r ++ Operation o ∷ [])
  with_creation o d creates none made =
      objects_with_changes_push l (operations r) o (objects r) shapes d creates none are made
      ∙ (λ i. objects_with_changes_at l (sym (operations-push r o) i) (sym (objects-creation r o creates) i))

  -- the object of a change takes it
  pub with_change_on : (o : Op) (d w : Stored) → is_change_body o.body ≡ true → IsDistinct same_name (keys_of shapes)
      → lookup (same_name (object_of o)) shapes ≡ Some d → w.object ≡ with_change d.object o
      → without_spare (set_value (same_name (object_of o)) shapes w) ≡ objects_with_changes l (r ++ Operation o ∷ [])
  with_change_on o d w changes unique there taken =
      objects_with_changes_set l (operations r) o d w shapes (objects r) changes unique are there taken
      ∙ (λ i. objects_with_changes_at l (sym (operations-push r o) i) (sym (objects-change r o changes) i))
