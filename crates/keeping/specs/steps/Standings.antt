-- What is known of a prefix of a room's record.
use Rattle.room_lock.specs.Passes.{PrefixView}
use Rattle.keeping.specs.declared.desk.Standing.{Standing}
use Rattle.keeping.specs.declared.desk.Standing.TheVariants.{Kept, Ordered, New, Absent}

module _ {P : Type 0} where
  -- if it is kept, this holds of what is kept
  abbrev pub IfKept : (PrefixView → Type 0) → Standing P → Type 0
  IfKept Holds (Kept kept) = Holds kept
  IfKept Holds Ordered = Unit {0}
  IfKept Holds New = Unit {0}
  IfKept Holds Absent = Unit {0}
