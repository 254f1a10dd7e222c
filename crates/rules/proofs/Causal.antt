-- Causal order on a history is one count.
use Rattle.std.proofs.Common.{List, ◌↔◌}
use Rattle.std.specs.Prelude.{IsTrue, Contains}
use Rattle.rules.specs.declared.history.Op.{Op}
use Rattle.rules.specs.Operations.{IsHistory, before}
use Rattle.rules.specs.steps.Histories.{Before}
use Rattle.rules.specs.steps.Histories.Before.{direct, through}

record Counted (h : List Op) (a b : Op) : Type 0 where
  first : Contains h a
  second : Contains h b
  counted : IsTrue (before a b)

counted_if_before : {h : List Op} → IsHistory h → (a b : Op) → Before h a b → Counted h a b
counted_if_before i a b (direct c d p q e) = record { first = p; second = q; counted = e }
counted_if_before i a b (through c x d p q) =
    let s = counted_if_before i c x p in
    let t = counted_if_before i x d q in
    record { first = s.first; second = t.second; counted = i.closed x d c.name s.second t.second t.counted s.counted }

-- on a history, a is before b exactly where b's vector counts a
pub Before_is_counts : {h : List Op} → IsHistory h → (a b : Op) → Contains h a → Contains h b → (IsTrue (before a b) ↔ Before h a b)
Before_is_counts i a b p q = (λ e. direct a b p q e, λ r. (counted_if_before i a b r).counted)
