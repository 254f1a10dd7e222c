-- The rooms of a server, as contracts see them.
use Rattle.std.specs.Prelude.{◌≡◌, ◌⊎◌, ◌<◌, ◌≤◌, ◌++◌, ℕ, Bool, true, List, Contains, length}
use Rattle.std.specs.List.{list_any}
use Rattle.base_types.specs.Texts.{Bytes}
use Rattle.base_types.specs.RoomNames.{is_in_chain}
use Rattle.room_lock.specs.declared.offered.Offered.{Offered}
use Rattle.room_lock.specs.declared.offered.Offered.TheVariants.{Every, Chains}

abbrev pub is_offered : Offered → Bytes → Bool
is_offered Every name = true
is_offered (Chains firsts) name = list_any (λ first. is_in_chain first name) firsts.items

-- the names of the rooms that are open from the start, how many others may be open, and which
pub record RoomsView : Type 0 where
  pub names : List Bytes
  pub others : ℕ
  pub offered : Offered

-- the room of this name may be opened on demand, unless it is open from the start
abbrev pub IsOffered : RoomsView → Bytes → Type 0
IsOffered rooms name = (0 < rooms.others) × (is_offered rooms.offered name ≡ true)

abbrev pub Serves : RoomsView → Bytes → Type 0
Serves rooms name = Contains rooms.names name ⊎ IsOffered rooms name

abbrev pub IsOnDemand : RoomsView → Bytes → Type 0
IsOnDemand rooms name = (¬ (Contains rooms.names name)) × IsOffered rooms name

-- these are the names of all rooms of the start, and then of others, no more than may be open
abbrev pub IsListOf : RoomsView → List Bytes → Type 0
IsListOf rooms names =
    (others : List Bytes) × (names ≡ rooms.names ++ others) × (length others ≤ rooms.others)
