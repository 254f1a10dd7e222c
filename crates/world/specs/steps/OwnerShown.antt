-- What a reply shows of an object, said of the room that its message is of.
use Rattle.std.specs.Prelude.{◌≡◌, ℕ, List, [], ◌∷◌, Some}
use Rattle.base_types.specs.Names.{Name}
use Rattle.base_types.specs.Texts.{Bytes}
use Rattle.rules.specs.declared.version.Version.{Version}
use Rattle.wire.specs.declared.reply.Reply.TheVariants.{Versions}
use Rattle.wire_reader.specs.steps.Reads.{reply_read}
use Rattle.room_core.specs.Shown.{HasObject}
use Rattle.world.specs.Alone.{Message}
use Rattle.world.specs.Rooms.{Rooms, owner_of, rooms_after}

-- the message is of a room, which then has the object so
pub record OwnerHasObject (names : List (List ℕ)) (rooms : Rooms) (message : Message) (at : ℕ)
    (object : Name) (kind : Bytes) (versions : List Version) : Type 0 where
  pub place : ℕ
  pub owner : owner_of names rooms message ≡ Some place
  pub has : HasObject ((rooms_after names rooms message).alone place).room at object kind versions

-- where the text of the reply to a message shows an object, the message's own room has it so
abbrev pub ShowsGroups : List (List ℕ) → Rooms → Message → List ℕ → Type 0
ShowsGroups names rooms message text = (at : ℕ) (object : Name) (kind : Bytes)
    (versions : List Version)
    → reply_read text ≡ Some (Versions at object kind versions)
    → OwnerHasObject names rooms message at object kind versions

-- and so for each of these messages and the text of the reply to it
abbrev pub AllShowGroups : List (List ℕ) → Rooms → List Message → List (List ℕ) → Type 0
AllShowGroups names rooms [] texts = Unit {0}
AllShowGroups names rooms (message ∷ messages) [] = Unit {0}
AllShowGroups names rooms (message ∷ messages) (text ∷ texts) =
    ShowsGroups names rooms message text
    × AllShowGroups names (rooms_after names rooms message) messages texts
