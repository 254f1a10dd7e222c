-- How many entries a successor has.
use Rattle.std.specs.Prelude.{◌≡◌, ℕ, length}
use Rattle.room_core.specs.Room.{Room}
use Rattle.succession.specs.Succession.{IsSuccessor}

-- a room that this one can go on as has this number of entries
pub record IsCountOfSuccessor (room : Room) (count : ℕ) : Type 0 where
  pub new : Room
  pub successor : IsSuccessor room new
  pub counted : length new.entries ≡ count
