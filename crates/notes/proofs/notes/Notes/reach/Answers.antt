use Rattle.std.proofs.Common.{◌∙◌, ap, arith}
use Rattle.notes.specs.Notes.{notes_at}
use Rattle.notes.proofs.Places.{notes_pushed}
use Rattle.notes.proofs.notes.Notes.reach.Goals as goal

pub loop-self-preserved : goal.loop-self-preserved
loop-self-preserved c = (
  ap notes_at c.push_reserved.ensures.items ∙ notes_pushed c.loop-self.self-inside.places.items ∙ c.loop-self.invariant.0,
  omega (arith, c.loop-self.invariant.1, c.push_reserved.ensures.capacity),
)
