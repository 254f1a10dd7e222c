use Rattle.std.proofs.Common.{◌≡◌, ◌∷◌, ◌++◌, [], take, string_bytes}
use Rattle.std.specs.List.{join_by}
use Rattle.serde_json.specs.Written.{compact_text}
use Rattle.wire.specs.Form.{name_form}
use Rattle.wire.proofs.write.part.StateVectorWritten.write.Given as goal

abbrev pub invariant-loop-at : goal.invariant-loop-at
invariant-loop-at l = string_bytes l.text ≡ string_bytes l.fn.text ++ 91 ∷ join_by (λ pair. compact_text (name_form pair)) (44 ∷ []) (take l.at l.pairs)
