use Rattle.std.proofs.Common.{◌≡◌, ◌∷◌, ◌++◌, [], take, string_bytes}
use Rattle.std.specs.List.{join_by}
use Rattle.serde_json.specs.Written.{compact_text}
use Rattle.wire.proofs.write.part.RefSliceWritten.write.Given as goal

abbrev pub invariant-loop-at : goal.invariant-loop-at
invariant-loop-at g l = string_bytes l.text ≡ string_bytes l.fn.text ++ 91 ∷ join_by (λ part. compact_text (g.W.Written.form part)) (44 ∷ []) (take l.at l.self.now)
