-- What a record draws: its objects without their names, and their versions without identifiers.
use Rattle.std.specs.Prelude.{List, [], ◌∷◌, Option, Some, None, map, filter_map}
use Rattle.base_types.specs.Texts.{Bytes}
use Rattle.rules.specs.AttrLists.{Attr}
use Rattle.rules.specs.declared.history.Entry.{Entry}
use Rattle.rules.specs.declared.version.Shown.{Shown}
use Rattle.rules.specs.declared.version.Shown.TheVariants.{Attrs, Gone}
use Rattle.rules.specs.declared.version.Version.{Version}
use Rattle.rules.specs.Operations.{name_of}
use Rattle.rules.specs.Records.{objects}
use Rattle.drawing.specs.Shown.{shown}
use Rattle.wire.specs.declared.reply.Reply.{Reply}
use Rattle.wire.specs.declared.reply.Reply.TheVariants.{Versions}

abbrev pub attrs_shown : Shown → Option (List Attr)
attrs_shown (Attrs attrs) = Some attrs
attrs_shown Gone = None

abbrev pub live_versions : List Version → List (List Attr)
live_versions versions = filter_map (λ version. attrs_shown version.shown) versions

-- an object's kind, and the attributes of its versions that are not gone
abbrev pub Drawn : Type 0
Drawn = Bytes × List (List Attr)

-- an object is drawn if it has a version that is not gone
abbrev pub drawn_if : Bytes → List (List Attr) → Option Drawn
drawn_if kind [] = None
drawn_if kind (attrs ∷ more) = Some (kind, attrs ∷ more)

abbrev pub picture_in : Reply → Option Drawn
picture_in (Versions at object kind versions) = drawn_if kind (live_versions versions)
picture_in _ = None

-- what a record draws: what the room shows of each object, in order of creation
abbrev pub drawn : List Entry → List Drawn
drawn r = filter_map (λ name. picture_in (shown r name)) (map name_of (objects r))
