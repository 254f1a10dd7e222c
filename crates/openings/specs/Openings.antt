-- The openings of rooms, in order.
use Rattle.std.specs.Prelude.{ℕ}
use Rattle.logbook.specs.Pages.{Book}
use Rattle.base_types.specs.Texts.{Bytes}

-- a room that was opened: its place among the rooms, its name, and the history that was begun for it
pub record Opened : Type 0 where
  pub place : ℕ
  pub name : Bytes
  pub history : Book

-- an opening: its number in the register, and the room
pub record OpeningView : Type 0 where
  pub number : ℕ
  pub room : Opened
