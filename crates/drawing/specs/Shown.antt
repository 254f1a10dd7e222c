-- What is shown of an object.
use Rattle.std.specs.Prelude.{List, [], ◌∷◌, ◌++◌, Option, Some, None, length, map}
use Rattle.base_types.specs.Names.{Name}
use Rattle.rules.specs.declared.history.Entry.{Entry}
use Rattle.rules.specs.declared.history.Op.{Op}
use Rattle.rules.specs.declared.refusal.Refusal.TheVariants.{NoSuchObject}
use Rattle.rules.specs.Bodies.{kind_of_body}
use Rattle.rules.specs.Operations.{creation_of, object_of}
use Rattle.rules.specs.Records.{operations}
use Rattle.rules.specs.Versions.{versions}
use Rattle.wire.specs.declared.reply.Reply.{Reply}
use Rattle.wire.specs.declared.reply.Reply.TheVariants.{No, Versions}
use Rattle.drawing.specs.Room.{Room}

-- the versions of an object after these entries, by its creation
abbrev pub shown_by : List Entry → Name → Option Op → Reply
shown_by r name None = No (length r) NoSuchObject
shown_by r name (Some op) =
    Versions (length r) name (kind_of_body op.body) (versions (operations r) name)

abbrev pub shown : List Entry → Name → Reply
shown r name = shown_by r name (creation_of (operations r) name)

-- the identifiers of the versions of a change's object, with the change
abbrev pub ids_with : Room → Op → List (List Name)
ids_with room op =
    map (λ version. version.id) (versions (operations room.entries ++ op ∷ []) (object_of op))
