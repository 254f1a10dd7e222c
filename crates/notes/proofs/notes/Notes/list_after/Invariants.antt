use Rattle.std.specs.List.{AllByRecursion}
use Rattle.wire.specs.Form.{IsNote}
use Rattle.wire.specs.Notes.{notes_after}
use Rattle.notes.specs.Notes.{notes_at}
use Rattle.notes.proofs.Places.{IsListedTo}
use Rattle.notes.proofs.notes.Notes.list_after.Given as goal

abbrev pub invariant-loop-site : goal.invariant-loop-site
invariant-loop-site l =
    IsListedTo l.site l.notes.items (notes_after l.asker l.request (notes_at l.self)) × AllByRecursion IsNote l.notes.items
