-- What is shown of an object, from its shape.
use Rattle.std.proofs.Common.{◌≡◌, List, length, sym, ap, ◌∙◌, None, Some}
use Rattle.std.specs.Map.{lookup}
use Rattle.base_types.specs.Names.{Name, same_name}
use Rattle.rules.specs.declared.history.Entry.{Entry}
use Rattle.rules.specs.declared.limits.LimitValues.{LimitValues}
use Rattle.rules.specs.declared.refusal.Refusal.TheVariants.{NoSuchObject}
use Rattle.rules.specs.Bodies.{kind_of_body}
use Rattle.rules.specs.Operations.{IsHistory}
use Rattle.rules.specs.Records.{operations}
use Rattle.rules.specs.Versions.{versions}
use Rattle.wire.specs.declared.reply.Reply.TheVariants.{No, Versions}
use Rattle.shape.specs.steps.Objects.{Stored, shown_versions}
use Rattle.shape.proofs.Objects.{versions_beside}
use Rattle.drawing.specs.steps.Objects.{objects_with_changes, without_spare}
use Rattle.drawing.specs.Shown.{shown, shown_by}
use Rattle.drawing.proofs.Lookup.{is_there, none_created}

module _ (l : LimitValues) (r : List Entry) (shapes : List (Name × Stored)) (are : without_spare shapes ≡ objects_with_changes l r) (object : Name) where
  pub shown_absent : lookup (same_name object) shapes ≡ None → shown r object ≡ No (length r) NoSuchObject
  shown_absent e = ap (shown_by r object) (none_created l r shapes are object e)

  pub shown_there : IsHistory (operations r) → (d : Stored) → lookup (same_name object) shapes ≡ Some d
      → shown r object ≡ Versions (length r) object (kind_of_body d.object.creation.body) (shown_versions d.object)
  shown_there history d e =
      let h = operations r in
      let there = is_there l r shapes are object d e in
      let same : shown_versions d.object ≡ versions h object = versions_beside h d.object there.of_history history ∙ ap (versions h) there.named in
      ap (shown_by r object) there.creation ∙ ap (Versions (length r) object (kind_of_body d.object.creation.body)) (sym same)
