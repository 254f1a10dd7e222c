-- Why what an operation does is refused: by the number of objects, or by the change's object.
use Rattle.std.proofs.Common.{◌≡◌, true, false, not, refl, sym, ap, ◌∙◌, Some, None, length, leb, cond, ◌&&◌, List}
use Rattle.std.specs.Prelude.{Bool, IfErr, Option, Result, Ok, Err, is_some}
use Rattle.std.specs.Result.{IsErrAnd}
use Rattle.std.specs.Map.{lookup}
use Rattle.base_types.specs.Names.{Name, same_name}
use Rattle.base_types.specs.Vectors.{counts}
use Rattle.rules.specs.declared.history.Op.{Op}
use Rattle.rules.specs.declared.refusal.Refusal.{Refusal}
use Rattle.rules.specs.declared.refusal.Refusal.TheVariants.{NoSuchObject, TooManyObjects}
use Rattle.rules.specs.Admission.{first_that_applies}
use Rattle.rules.specs.Bodies.{is_change_body}
use Rattle.rules.specs.Conflicts.{has_object}
use Rattle.rules.specs.Operations.{object_of, creation_of}
use Rattle.rules.specs.Records.{operations, objects, creation_conditions, change_conditions, version_conditions}
use Rattle.shape.specs.steps.Objects.{IsNextChange, Stored, change_refusal, shown_ids, with_change}
use Rattle.shape.specs.declared.fault.ChangeFault.{ChangeFault}
use Rattle.shape.specs.declared.fault.ChangeFault.TheVariants as change_fault
use Rattle.shape.specs.steps.Faults.{IsChangeRefusal}
use Rattle.shape.proofs.Refusals.{passed}
use Rattle.drawing.specs.steps.Additions.{IsNext, body_refusal}
use Rattle.drawing.specs.Shown.{ids_with}
use Rattle.drawing.specs.steps.Drawing.{IsReplay}
use Rattle.drawing.specs.steps.Faults.{IsAddRefusal, of_change}
use Rattle.drawing.specs.Room.{Room}
use Rattle.drawing.proofs.AtObject.{ids_with_change, may_be_planned, refused_by_object}
use Rattle.drawing.proofs.Lookup.{has_object_by_name, has_shape}

module _ (room : Room) (o : Op) where
  abbrev of_body : Bool → Option Refusal
  of_body b = first_that_applies (cond b (change_conditions room.limits (operations room.entries) o) (creation_conditions room.limits room.entries))

  -- ---- a creation

  module _ (creates : is_change_body o.body ≡ false) where
    pub too_many : leb room.limits.objects (length (objects room.entries)) ≡ true → body_refusal room o ≡ Some TooManyObjects
    too_many full = ap of_body creates ∙ (rw full refl)

  -- ---- a change

  module _ (change : is_change_body o.body ≡ true) where
    no_object : has_object (operations room.entries) o ≡ false → body_refusal room o ≡ Some NoSuchObject
    no_object has = ap of_body change ∙ (rw has refl)

    by_versions : has_object (operations room.entries) o ≡ true → body_refusal room o ≡ first_that_applies (version_conditions room.limits (operations room.entries) o)
    by_versions has = ap of_body change ∙ passed (not (has_object (operations room.entries) o), NoSuchObject) (version_conditions room.limits (operations room.entries) o) (ap not has)

    -- it doesn't count the name of its object
    pub not_counted : counts o.seen (object_of o) ≡ false → body_refusal room o ≡ Some NoSuchObject
    not_counted counted = no_object (has_object_by_name (operations room.entries) o ∙ ap (λ b. b && is_some (creation_of (operations room.entries) (object_of o))) counted)

    module _ (shapes : List (Name × Stored)) (history : List Op) (replay : IsReplay room shapes history) (counted : counts o.seen (object_of o) ≡ true) where
      has_it : has_object (operations room.entries) o ≡ is_some (lookup (same_name (object_of o)) shapes)
      has_it =
          has_object_by_name (operations room.entries) o
          ∙ ap (λ b. b && is_some (creation_of (operations room.entries) (object_of o))) counted
          ∙ sym (has_shape room.limits room.entries shapes replay.shapes_are (object_of o))

      -- its object isn't there
      pub not_there : lookup (same_name (object_of o)) shapes ≡ None → body_refusal room o ≡ Some NoSuchObject
      not_there none = no_object (has_it ∙ ap is_some none)

      module _ (d : Stored) (there : lookup (same_name (object_of o)) shapes ≡ Some d) where
        -- or its object says it
        pub by_object : body_refusal room o ≡ change_refusal d.object o
        by_object = by_versions (has_it ∙ ap is_some there) ∙ refused_by_object room.limits room.entries shapes replay.shapes_are o change d there

        module _ (next : IsNext room o) where
          pub may_be_asked : IsNextChange d.object o
          may_be_asked = may_be_planned room.limits room.entries shapes replay.shapes_are o change d there replay.sound.history replay.sound.ordered next.ready next.vector

          pub ids_are : shown_ids (with_change d.object o) ≡ ids_with room o
          ids_are = ids_with_change room.limits room.entries shapes replay.shapes_are o change d there replay.sound.history replay.sound.ordered next.ready next.vector

-- a refusal of an object is that refusal of the drawing
pub refused_alike : (refusal : Option Refusal) (fault : ChangeFault) → IsChangeRefusal refusal fault → IsAddRefusal refusal (of_change fault)
refused_alike refusal change_fault.NoSuchVersion is n = is (λ e. cc)
refused_alike refusal change_fault.Gone is n = is (λ e. cc)
refused_alike refusal change_fault.ObjectFull is n = is (λ e. cc)
refused_alike refusal change_fault.TooManyKeys is n = is (λ e. cc)
refused_alike refusal change_fault.TooManyVersions is n = is (λ e. cc)
refused_alike refusal change_fault.NoMemory is n = absurd (n refl)

-- what is known of a fault that is there holds of it
pub if_err : {T E : Type 0} (r : Result T E) (P Q : E → Type 0) → ((e : E) → P e → Q e) → IsErrAnd r P → IfErr r Q
if_err (Ok x) P Q f h = tt
if_err (Err e) P Q f h = f e h
