use Rattle.std.proofs.Common.{◌≡◌, ◌<◌, ◌∷◌, ◌++◌, [], length}
use Rattle.std.specs.List.{join_by}
use Rattle.serde_json.specs.Written.{compact_text}
use Rattle.wire.specs.Form.{name_form}
use Rattle.wire_reader.proofs.compact.push_pairs.Given as goal

-- the pairs so far are those of the list that is taken so far
abbrev pub invariant-pairs : goal.invariant-pairs
invariant-pairs l =
    ((91 ∷ join_by (λ pair. compact_text (name_form pair)) (44 ∷ []) l.fn.pairs.items) ++ l.fn.cursor ≡ (91 ∷ join_by (λ pair. compact_text (name_form pair)) (44 ∷ []) l.pairs.items) ++ l.cursor)
    × (0 < length l.pairs.items)
