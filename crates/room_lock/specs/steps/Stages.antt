-- What a slot holds.
use Rattle.std.specs.Prelude.{◌≡◌, Contains, None}
use Rattle.openings.specs.Openings.{OpeningView}
use Rattle.room_lock.specs.Passes.{PrefixView}
use Rattle.room_lock.specs.declared.slot.Stage.{Stage}
use Rattle.room_lock.specs.declared.slot.Stage.TheVariants.{Free, Open}

-- the room of this opening is open
abbrev pub IsOpenAs : {P : Type 0} → OpeningView → Stage P → Type 0
IsOpenAs opening Free = ⊥
IsOpenAs opening (Open room) = room.opening ≡ opening

-- the room of this prefix is open, its record is the prefix, and no session is in it
abbrev pub IsIdleAs : {P : Type 0} → PrefixView → Stage P → Type 0
IsIdleAs whole Free = ⊥
IsIdleAs whole (Open room) = (room.opening ≡ whole.opening) × (room.entries ≡ whole.entries)
    × ¬ (Contains room.shelf None)
