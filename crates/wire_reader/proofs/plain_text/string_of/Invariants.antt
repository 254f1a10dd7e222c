use Rattle.std.proofs.Common.{ℕ, List, ◌∷◌}
use Rattle.wire_reader.specs.steps.PlainTexts.{StandsFor, StandsInside}
use Rattle.wire_reader.proofs.plain_text.string_of.Given as goal

-- the text stands for what was taken of the string
abbrev pub invariant-content : goal.invariant-content
invariant-content l = (message : List ℕ) → StandsFor message l.fn.text.items (34 ∷ l.bytes) → StandsInside message l.text.items l.rest
