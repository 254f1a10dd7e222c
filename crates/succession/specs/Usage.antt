-- How much of a room's limits is used.
use Rattle.std.specs.Prelude.{ℕ, ◌*◌, Bool, ◌&&◌, nat_le, length}
use Rattle.rules.specs.Records.{objects, sites}
use Rattle.room_core.specs.Room.{Room}

abbrev pub has_quarter : ℕ → ℕ → Bool
has_quarter limit used = nat_le (used * 4) (limit * 3)

-- a quarter of the room's entries, joins and objects is left
abbrev pub is_roomy : Room → Bool
is_roomy room = has_quarter room.limits.entries (length room.entries)
    && has_quarter room.limits.joins (sites room.entries)
    && has_quarter room.limits.objects (length (objects room.entries))
