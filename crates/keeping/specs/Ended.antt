-- A record that has ended, with the number of entries of a room that its room could go on as.
use Rattle.std.specs.Prelude.{◌≡◌, List, [], ◌∷◌, ◌++◌, length}
use Rattle.rules.specs.declared.history.Entry.{Entry}
use Rattle.rules.specs.declared.history.Entry.TheVariants.{Next}
use Rattle.room_core.specs.Room.{Room}
use Rattle.succession.specs.Succession.{IsSuccessor}

pub record HasSuccessor (ended : List Entry) : Type 0 where
  pub room : Room
  pub new : Room
  pub successor : IsSuccessor room new
  pub last : ended ≡ room.entries ++ Next (length new.entries) ∷ []
