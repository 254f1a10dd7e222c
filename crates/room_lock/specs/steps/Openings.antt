-- Which openings may be of some rooms, and under which names they stand.
use Rattle.std.specs.Prelude.{◌≡◌, ◌⊎◌, ◌<◌, List, length, All}
use Rattle.base_types.specs.Texts.{Bytes}
use Rattle.openings.specs.Openings.{OpeningView}
use Rattle.room_lock.specs.InOrder.{opening_name}
use Rattle.room_lock.specs.Rooms.{RoomsView}

-- this may be an opening of these rooms: the ones that are open from the start were opened first
abbrev pub MayBeOf : RoomsView → OpeningView → Type 0
MayBeOf rooms opening = (opening.number < length rooms.names) ⊎ (0 < rooms.others)

-- each opening stands under the name of its room
abbrev pub AreNamed : List (Bytes × OpeningView) → Type 0
AreNamed openings = All (λ (named : Bytes × OpeningView). opening_name named.1 ≡ named.0) openings
