-- Rooms that are to be created.
use Rattle.std.specs.Prelude.{◌≡◌, ◌≤◌, ◌<◌, ◌^◌, ℕ, List, None, bytes_eq, length}
use Rattle.logbook.specs.Pages.{Book}
use Rattle.base_types.specs.Repeats.{first_repeat}
use Rattle.base_types.specs.Texts.{Bytes}
use Rattle.rules.specs.declared.history.Entry.{Entry}
use Rattle.rules.specs.declared.limits.LimitValues.{LimitValues}
use Rattle.room_lock.specs.declared.offered.Offered.{Offered}

-- the limits of the rooms, the register of their openings, for each room that is open from the start
-- its record and its name, how many others may be open, and which
pub record Planned : Type 0 where
  pub limits : LimitValues
  pub register : Book
  pub records : List (List Entry)
  pub names : List Bytes
  pub others : ℕ
  pub offered : Offered

-- Each name has a record, and no name occurs twice.
pub record CanBeMade (planned : Planned) : Type 0 where
  pub counted : length planned.records ≡ length planned.names
  pub few : length planned.names ≤ 2 ^ 49
  pub few_others : planned.others < 2 ^ 32
  pub apart : first_repeat bytes_eq planned.names ≡ None

-- the plan is of rooms with these limits, whose openings are in this register
pub record IsPlanOf (planned : Planned) (limits : LimitValues) (register : Book) : Type 0 where
  pub limits_are : planned.limits ≡ limits
  pub register_is : planned.register ≡ register
