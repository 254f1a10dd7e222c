-- What a reply shows of an object: the maximal compatible groups of its changes.
use Rattle.std.specs.Prelude.{◌≡◌, ℕ, List, [], ◌∷◌, Some}
use Rattle.base_types.specs.Names.{Name}
use Rattle.base_types.specs.Texts.{Bytes}
use Rattle.rules.specs.declared.version.Version.{Version}
use Rattle.wire.specs.declared.reply.Reply.TheVariants.{Versions}
use Rattle.wire.specs.Texts.{reply_text}
use Rattle.wire_reader.specs.steps.Reads.{reply_read}
use Rattle.room_core.specs.Room.{Room}
use Rattle.room_core.specs.Shown.{HasObject}
use Rattle.world.specs.Alone.{Message, Alone, alone_reply, alone_after}

-- if the text of a reply shows an object, this room has it so
abbrev pub Shows : Room → List ℕ → Type 0
Shows room text = (at : ℕ) (object : Name) (kind : Bytes) (versions : List Version)
    → reply_read text ≡ Some (Versions at object kind versions)
    → HasObject room at object kind versions

-- so for each of a room's messages, which come one after the other, and the reply to it
abbrev pub AllShow : Alone → List Message → Type 0
AllShow alone [] = Unit {0}
AllShow alone (message ∷ messages) =
    Shows (alone_after alone message).room (reply_text (alone_reply alone message))
    × AllShow (alone_after alone message) messages
