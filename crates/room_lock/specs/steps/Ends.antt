-- The end of a record.
use Rattle.std.specs.Prelude.{◌≡◌, ℕ, List, [], ◌∷◌, ◌++◌}
use Rattle.rules.specs.declared.history.Entry.{Entry}
use Rattle.rules.specs.declared.history.Entry.TheVariants.{Next}
use Rattle.room_core.specs.State.{DrawingState}

-- The record has got its end, with a count that was given for the room by the record before.
pub record IsEndOver (Gives : DrawingState → ℕ → Type 0) (old new : List Entry) : Type 0 where
  pub state : DrawingState
  pub of_record : state.room.entries ≡ old
  pub count : ℕ
  pub given : Gives state count
  pub ended : new ≡ old ++ Next count ∷ []
