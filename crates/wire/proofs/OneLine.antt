-- Texts of one line, one after another.
use Rattle.std.proofs.Common.{ℕ, List, [], ◌∷◌, ◌++◌}
use Rattle.wire.specs.steps.OneLine.{IsOneLine}

pub one_line_append : (xs ys : List ℕ) → IsOneLine xs → IsOneLine ys → IsOneLine (xs ++ ys)
one_line_append [] ys h k = k
one_line_append (x ∷ xs) ys h k = (h.0, one_line_append xs ys h.1 k)
