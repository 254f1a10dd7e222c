use Rattle.std.proofs.Common.{◌≡◌, ◌+◌, ◌-◌, ◌≤◌}
use Rattle.std.specs.Prelude.{vec_len, vec_capacity}
use Rattle.notes.specs.Notes.{notes_at}
use Rattle.notes.proofs.notes.Notes.reach.Given as goal

abbrev pub invariant-loop-self : goal.invariant-loop-self
invariant-loop-self l =
    (notes_at l.self-inside.places.items ≡ notes_at l.fn.self) × (l.place + 1 ≤ vec_capacity l.self-inside.places)

abbrev pub decreases-loop-self : goal.decreases-loop-self
decreases-loop-self l = l.place + 1 - vec_len l.self-inside.places
