-- The effect of a page of a record on a replica.
use Rattle.std.specs.Prelude.{◌≡◌, ◌≢◌, ℕ, ◌<◌, List, Some, length, take, slice_get}
use Rattle.rules.specs.declared.history.Entry.{Entry}
use Rattle.wire_reader.specs.declared.fault.ReadFault.{ReadFault}
use Rattle.wire_reader.specs.declared.fault.ReadFault.TheVariants.{Bad}
use Rattle.wire_reader.specs.declared.fault.ReadFault.TheVariants as read_fault
use Rattle.wire.specs.declared.reply.Reply.TheVariants.{Entries}
use Rattle.wire_reader.specs.steps.Reads.{reply_read}
use Rattle.late_join.specs.declared.fault.TakeFault.{TakeFault}
use Rattle.late_join.specs.declared.fault.TakeFault.TheVariants as take_fault
use Rattle.late_join.specs.declared.fault.FeedFault.{FeedFault}
use Rattle.late_join.specs.declared.fault.FeedFault.TheVariants.{NotAPage, Take, NoMemory}
use Rattle.late_join.specs.declared.replica.Fed.{Fed}
use Rattle.late_join.specs.Replica.{ReplicaState, with_entries}
use Rattle.late_join.specs.Taking.{take_fault}

-- the fault of feeding for a fault of reading
abbrev pub of_reading : ReadFault → FeedFault
of_reading Bad = NotAPage
of_reading read_fault.NoMemory = NoMemory

-- the bytes are the text of an `entries` reply with these entries, from this place on, of a record
-- of this length
abbrev pub IsPage : List ℕ → ℕ → ℕ → List Entry → Type 0
IsPage text at from entries = reply_read text ≡ Some (Entries at from entries)

-- the entries before this place were taken, and the one there was not, for this fault
pub record StopsAt
    (old new : ReplicaState) (entries : List Entry) (place : ℕ) (fault : TakeFault) : Type 0 where
  pub within : place < length entries
  pub before : new ≡ with_entries old (take place entries)
  pub entry : Entry
  pub here : slice_get entries place ≡ Some entry
  pub why : fault ≢ take_fault.NoMemory → take_fault new.limits new.taken entry ≡ Some fault

-- if these entries were not all taken, the fault is that of one of them
abbrev pub Stops : ReplicaState → ReplicaState → List Entry → FeedFault → Type 0
Stops old new entries NotAPage = ⊥
Stops old new entries (Take place fault) = StopsAt old new entries place fault
Stops old new entries NoMemory = ⊥

-- the text is a page, and all its entries were taken
pub record IsFed (old new : ReplicaState) (text : List ℕ) (fed : Fed) : Type 0 where
  pub entries : List Entry
  pub page : IsPage text fed.at fed.from entries
  pub count : fed.count ≡ length entries
  pub all : new ≡ with_entries old entries

-- the text is a page, and one of its entries was not taken
pub record IsStopped
    (old new : ReplicaState) (text : List ℕ) (place : ℕ) (fault : TakeFault) : Type 0 where
  pub at : ℕ
  pub from : ℕ
  pub entries : List Entry
  pub page : IsPage text at from entries
  pub stops : StopsAt old new entries place fault

-- the replica after a text that was not taken as a whole
abbrev pub StaysBy : ReplicaState → ReplicaState → List ℕ → FeedFault → Type 0
StaysBy old new text NotAPage =
    ((at from : ℕ) (entries : List Entry) → ¬ IsPage text at from entries) × (new ≡ old)
StaysBy old new text (Take place fault) = IsStopped old new text place fault
StaysBy old new text NoMemory = new ≡ old
