-- What a look-up by name, and the opening of a room, give: an opening, or how its record begins.
use Rattle.openings.specs.Openings.{OpeningView}
use Rattle.room_lock.specs.declared.lookup.Lookup.{Lookup}
use Rattle.room_lock.specs.declared.lookup.Lookup.TheVariants as lookup
use Rattle.room_lock.specs.declared.lookup.Opened.{Opened}
use Rattle.room_lock.specs.declared.lookup.Opened.TheVariants as opened
use Rattle.room_lock.specs.Passes.{PrefixView}

module _ {P : Type 0} where
  abbrev pub IfOpen : (OpeningView → Type 0) → Lookup P → Type 0
  IfOpen Holds (lookup.Open opening) = Holds opening
  IfOpen Holds _ = Unit {0}

  abbrev pub IfNew : (PrefixView → Type 0) → Opened P → Type 0
  IfNew Holds (opened.New begun) = Holds begun
  IfNew Holds _ = Unit {0}

  abbrev pub IfKnown : (OpeningView → Type 0) → Opened P → Type 0
  IfKnown Holds (opened.Known opening) = Holds opening
  IfKnown Holds _ = Unit {0}
