-- How a room goes on as another one.
use Rattle.std.specs.Prelude.{◌≡◌, List, [], ◌∷◌, ◌++◌, length, true}
use Rattle.rules.specs.declared.history.Entry.{Entry}
use Rattle.rules.specs.declared.history.Entry.TheVariants.{Next}
use Rattle.room_core.specs.Room.{Room, full_room}
use Rattle.renewal.specs.Renewed.{IsRenewal}
use Rattle.succession.specs.Usage.{is_roomy}
use Rattle.succession.specs.declared.succeeding.Succession.{Succession}
use Rattle.succession.specs.declared.succeeding.Succession.TheVariants as succession

-- the old record ends with the number of entries of the new one, which draws what it drew before
pub record Follows (old new : Room) : Type 0 where
  pub before : List Entry
  pub ended : old.entries ≡ before ++ Next (length new.entries) ∷ []
  pub renewal : IsRenewal before new.entries
  pub whole : new ≡ full_room new.entries

-- the new room draws what the room draws, and has a quarter left of each limit
pub record IsSuccessor (room new : Room) : Type 0 where
  pub renewal : IsRenewal room.entries new.entries
  pub whole : new ≡ full_room new.entries
  pub roomy : is_roomy new ≡ true

-- a room has ended with the number of entries of the new one, which is a successor
pub record IsRenewedAs (room old new : Room) : Type 0 where
  pub limits : old.limits ≡ room.limits
  pub ended : old.entries ≡ room.entries ++ Next (length new.entries) ∷ []
  pub successor : IsSuccessor room new

-- what a room goes on as
abbrev pub IsSuccession : Room → Succession → Type 0
IsSuccession room (succession.Renewed old new) = IsRenewedAs room old.room new.room
IsSuccession room (succession.Declined same obstacle) = same.room ≡ room
