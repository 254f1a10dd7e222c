-- What a change's object answers to it is what is to be answered after the operations so far.
use Rattle.std.proofs.Common.{◌≡◌, true, List, [], ◌∷◌, ◌++◌, map, sym, ap, ◌∙◌, subst, None, Some}
use Rattle.std.specs.Map.{lookup}
use Rattle.std.proofs.lemmas.Bool.{and_from}
use Rattle.base_types.specs.Names.{Name, same_name}
use Rattle.base_types.specs.Vectors.{is_vector}
use Rattle.rules.specs.declared.history.Op.{Op}
use Rattle.rules.specs.declared.history.Entry.{Entry}
use Rattle.rules.specs.declared.limits.LimitValues.{LimitValues}
use Rattle.rules.specs.Admission.{first_that_applies}
use Rattle.rules.specs.steps.Histories.{causal_refusal}
use Rattle.rules.specs.Bodies.{is_change_body}
use Rattle.rules.specs.Operations.{IsCausallyOrdered, IsHistory, is_change_on, object_of}
use Rattle.rules.specs.Records.{operations, version_conditions}
use Rattle.rules.specs.Versions.{versions}
use Rattle.rules.proofs.Counted.{same_name-refl}
use Rattle.places.specs.steps.Changes.{AreChangesOf}
use Rattle.shape.specs.steps.Objects.{IsNextChange, Stored, change_refusal, shown_ids, with_change}
use Rattle.shape.proofs.Next.{next_history, next_change, object_with_change}
use Rattle.shape.proofs.Objects.{refusal_beside, versions_beside}
use Rattle.drawing.specs.steps.Objects.{objects_with_changes, without_spare}
use Rattle.drawing.proofs.Lookup.{is_there}

module _ (l : LimitValues) (r : List Entry) (shapes : List (Name × Stored)) (are : without_spare shapes ≡ objects_with_changes l r) (o : Op) (changes : is_change_body o.body ≡ true) where
  abbrev h : List Op
  h = operations r

  module _ (d : Stored) (there : lookup (same_name (object_of o)) shapes ≡ Some d) where
    is_on_it : is_change_on d.object.creation.name o ≡ true
    is_on_it = and_from (is_change_body o.body) (same_name (object_of o) d.object.creation.name) changes (same_name-refl (object_of o) d.object.creation.name (sym (is_there l r shapes are (object_of o) d there).named))

    -- it is refused for the object's cause
    pub refused_by_object : first_that_applies (version_conditions l h o) ≡ change_refusal d.object o
    refused_by_object =
        let t = is_there l r shapes are (object_of o) d there in
        ap (λ b. first_that_applies (version_conditions b h o)) (sym t.bounds)
        ∙ sym (refusal_beside h d.object t.of_history o is_on_it)

    module _ (history : IsHistory h) (ordered : IsCausallyOrdered h) (ready : causal_refusal h o.name o.seen ≡ None) (vector : is_vector o.seen ≡ true) where
      -- it may be planned on it
      pub may_be_planned : IsNextChange d.object o
      may_be_planned =
          subst (λ s. AreChangesOf d.object.creation.name (s ++ o ∷ [])) (is_there l r shapes are (object_of o) d there).of_history.all
          (next_change h o history ordered ready vector d.object.creation.name is_on_it)

      -- and with it the object has the identifiers of the versions after it
      pub ids_with_change : shown_ids (with_change d.object o) ≡ map (λ version. version.id) (versions (h ++ o ∷ []) (object_of o))
      ids_with_change =
          let t = is_there l r shapes are (object_of o) d there in
          let next = next_history h o history ordered ready vector in
          ap (map (λ version. version.id)) (
          versions_beside (h ++ o ∷ []) (with_change d.object o) (object_with_change h o d.object t.of_history is_on_it) next
          ∙ ap (versions (h ++ o ∷ [])) t.named
          )
