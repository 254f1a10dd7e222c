-- Renewal.
use Rattle.std.specs.Prelude.{◌≡◌, ◌≤◌, List, length}
use Rattle.rules.specs.Limits.{full_limits}
use Rattle.rules.specs.Records.{IsLegal}
use Rattle.rules.specs.declared.history.Entry.{Entry}
use Rattle.room_core.specs.Room.{full_room}
use Rattle.renewal.specs.declared.renewing.Renewal.{Renewal}
use Rattle.renewal.specs.declared.renewing.Renewal.TheVariants as renewal
use Rattle.renewal.specs.Drawn.{drawn}

-- the new record is legal, and draws what the old one draws
pub record IsRenewal (old new : List Entry) : Type 0 where
  pub legal : IsLegal full_limits new
  pub same : drawn new ≡ drawn old

pub record IsShortRenewal (old new : List Entry) : Type 0 where
  pub renewal : IsRenewal old new
  pub length : length new ≤ length old

abbrev pub IsRenewed : List Entry → Renewal → Type 0
IsRenewed old (renewal.Room new) =
    IsShortRenewal old new.room.entries × (new.room ≡ full_room new.room.entries)
IsRenewed old (renewal.Declined reason) = Unit {0}
