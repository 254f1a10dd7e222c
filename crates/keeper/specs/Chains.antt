-- A later room of a chain.
use Rattle.std.specs.Prelude.{◌≡◌, ◌<◌}
use Rattle.base_types.specs.Texts.{Bytes}
use Rattle.base_types.specs.RoomNames.{first_name, room_number}

pub record IsLater (name later : Bytes) : Type 0 where
  pub chain : first_name later ≡ first_name name
  pub order : room_number name < room_number later
