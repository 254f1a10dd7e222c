use Rattle.std.proofs.Common.{◌≡◌, ◌<◌, ◌∷◌, ◌++◌, [], length}
use Rattle.std.specs.List.{join_by, AllByRecursion}
use Rattle.serde_json.specs.Written.{compact_text}
use Rattle.wire_reader.proofs.compact.rest_of.Given as goal

-- the parts so far are those of the list that is taken so far
abbrev pub invariant-parts : goal.invariant-parts
invariant-parts g l =
    (91 ∷ (compact_text (g.T.Scanned.form l.fn.first) ++ l.fn.cursor) ≡ (91 ∷ join_by (λ part. compact_text (g.T.Scanned.form part)) (44 ∷ []) l.parts.items) ++ l.cursor)
    × (0 < length l.parts.items)
    × AllByRecursion g.T.Scanned.IsInRange l.parts.items
    × AllByRecursion g.T.Scanned.HasUtf8 l.parts.items
