-- What a reply says of the record: how long it was before the call, and what was added.
use Rattle.std.specs.Prelude.{ℕ, Bool, Option, Some, None, is_some}
use Rattle.wire.specs.declared.reply.EntryKind.{EntryKind}
use Rattle.wire.specs.declared.reply.EntryKind.TheVariants as kind
use Rattle.wire.specs.declared.reply.Reply.{Reply}
use Rattle.wire.specs.declared.reply.Reply.TheVariants.{Joined, Returned, Made, Taken, Versions}
use Rattle.wire.specs.declared.reply.Reply.TheVariants.{Objects, Entries, Left, Notes, Renewed, No}

abbrev pub at_of : Reply → ℕ
at_of (Joined at site) = at
at_of (Returned at site seq) = at
at_of (Made at name) = at
at_of (Taken at ids) = at
at_of (Versions at name kind versions) = at
at_of (Objects at from total objects) = at
at_of (Entries at from entries) = at
at_of (Left at) = at
at_of (Notes at notes) = at
at_of (Renewed at room) = at
at_of (No at refusal) = at

-- the kind of the new entry that the reply reports
abbrev pub entry_kind : Reply → Option EntryKind
entry_kind (Joined at site) = Some kind.Join
entry_kind (Made at name) = Some kind.Creation
entry_kind (Taken at ids) = Some kind.Change
entry_kind _ = None

abbrev pub adds : Reply → Bool
adds reply = is_some (entry_kind reply)
