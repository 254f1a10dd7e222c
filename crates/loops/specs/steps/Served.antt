-- What is done with the bytes of a client, and what stays once its connection has ended.
use Rattle.std.specs.Prelude.{◌≡◌, ◌⊎◌, ℕ, Bool, true, List, Option, None, Some, IsSome, unwrap_or}
use Rattle.connection.specs.declared.closing.Closing.TheVariants as closing
use Rattle.connection.specs.declared.end.End.{End}
use Rattle.connection.specs.declared.end.End.TheVariants as end
use Rattle.connection.specs.Connections.{AnswersHeld, Closes, FailsAnsweringHeld, Receives, StopsReceiving}
use Rattle.connection.specs.Standing.{ConnectionState}
use Rattle.connection.specs.Talks.{Block, Fault, Turn, Wait}
use Rattle.loops.specs.declared.ending.Ending.{Ending}
use Rattle.loops.specs.declared.ending.Ending.TheVariants.{Connection}
use Rattle.loops.specs.declared.stage.Served.{Served}
use Rattle.loops.specs.steps.Endings.{is_fault_of_server}

module _ {S D : Type 0} where
  -- The connection has ended. Why it did first stays, and what waits too. If the server is at fault,
  -- a close may stand behind.
  abbrev pub Stops : End → ConnectionState S D → Option Ending → Served S D → Type 0
  Stops why connection over after =
      (after.over ≡ Some (unwrap_or over (Connection why)))
      × ((after.connection.standing ≡ connection.standing)
      ⊎ ((is_fault_of_server why ≡ true) × Closes closing.Fault connection after.connection))

  -- The server goes away: the connection has ended, and a close of 1001 may stand behind what waits.
  -- If it had ended before, nothing changes.
  abbrev pub GoesAway : Served S D → Served S D → Type 0
  GoesAway before after =
      (IsSome before.over → after ≡ before)
      × (before.over ≡ None → (after.over ≡ Some (Connection end.Closed))
      × ((after.connection.standing ≡ before.connection.standing)
      ⊎ Closes closing.Away before.connection after.connection))

  module _ (turn : Turn S D) (waits : Wait S) (blocks : Block S) (fails : Fault S) where
    -- These bytes came: the connection received them, or ends at them.
    abbrev pub ReceivesOrStops : Served S D → List ℕ → Served S D → Type 0
    ReceivesOrStops before bytes after =
        (Receives turn waits blocks before.connection bytes after.connection × (after.over ≡ before.over))
        ⊎ ((why : End) × (mid : ConnectionState S D)
        × StopsReceiving turn waits blocks fails before.connection bytes why mid × Stops why mid before.over after)

  module _ (turn : Turn S D) (waits : Wait S) (fails : Fault S) where
    -- The held message was heard again, or the connection ends at it.
    abbrev pub AnswersOrStops : Bool → Served S D → Served S D → Type 0
    AnswersOrStops may_hold before after =
        (AnswersHeld turn waits may_hold before.connection after.connection × (after.over ≡ before.over))
        ⊎ ((why : End) × (mid : ConnectionState S D)
        × FailsAnsweringHeld turn fails before.connection why mid × Stops why mid before.over after)
