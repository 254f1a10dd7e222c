-- Rooms that are nearly full.
use Rattle.std.specs.Prelude.{ℕ, ◌*◌, Bool, ◌||◌, nat_le, length}
use Rattle.rules.specs.Records.{objects, sites}
use Rattle.room_core.specs.Room.{Room}

-- nine tenths of a limit are used
abbrev pub is_nearly_used : ℕ → ℕ → Bool
is_nearly_used limit used = nat_le (limit * 9) (used * 10)

-- nine tenths of the room's entries, joins or objects are used
abbrev pub is_nearly_full : Room → Bool
is_nearly_full room = is_nearly_used room.limits.entries (length room.entries)
    || is_nearly_used room.limits.joins (sites room.entries)
    || is_nearly_used room.limits.objects (length (objects room.entries))
