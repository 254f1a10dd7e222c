-- A room's file: what it keeps, and what may follow the kept bytes.
use Rattle.std.specs.Prelude.{Bool, true, false}
use Rattle.journal.specs.declared.fault.JournalFault.{JournalFault}
use Rattle.journal.specs.declared.fault.JournalFault.TheVariants.{Failed}
use Rattle.room_lock.specs.Passes.{PrefixView}
use Rattle.keeping.specs.declared.file.Tail.{Tail}
use Rattle.keeping.specs.declared.file.Tail.TheVariants.{Nothing, Scraps, Broken}

pub record RoomFileView : Type 0 where
  pub kept : PrefixView
  pub tail : Tail

-- nothing follows them
abbrev pub is_clean : Tail → Bool
is_clean Nothing = true
is_clean _ = false

-- what may follow them after a fault: scraps where the file can still be cut
abbrev pub tail_after : JournalFault → Tail
tail_after Failed = Broken
tail_after _ = Scraps
