-- What a room's type keeps.
use Rattle.std.specs.Prelude.{◌≡◌, ◌≤◌, Bool, ℕ}
use Rattle.rules.specs.Records.{has_ended, sites, IsLegal}
use Rattle.drawing.specs.Room.{Room}

-- the record is legal, so many sites have joined, and it has ended or not
pub record IsRoom (room : Room) (joined : ℕ) (ended : Bool) : Type 0 where
  pub legal : IsLegal room.limits room.entries
  pub joins : joined ≡ sites room.entries
  pub few : joined ≤ room.limits.joins
  pub end : ended ≡ has_ended room.entries
