-- What asking for a room on demand gives: an opening, or how its record begins.
use Rattle.openings.specs.Openings.{OpeningView}
use Rattle.room_lock.specs.Passes.{PrefixView}
use Rattle.keeper.specs.declared.access.Access.{Access}
use Rattle.keeper.specs.declared.access.Access.TheVariants.{New, Known}

module _ {P : Type 0} where
  abbrev pub IfNew : (PrefixView → Type 0) → Access P → Type 0
  IfNew Holds (New begun) = Holds begun
  IfNew Holds _ = Unit {0}

  abbrev pub IfKnown : (OpeningView → Type 0) → Access P → Type 0
  IfKnown Holds (Known opening) = Holds opening
  IfKnown Holds _ = Unit {0}
