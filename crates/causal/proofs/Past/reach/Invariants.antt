use Rattle.std.proofs.Common.{◌≡◌, ◌-◌, ◌≤◌, ℕ, map, min, get_or, vec_capacity, vec_len}
use Rattle.causal.specs.steps.Index.{IsIndex}
use Rattle.causal.proofs.Past.reach.Given as goal

-- The operations stay, the lists stay an index of them, no site has room for fewer, and there is memory
-- for all lists to come.
abbrev pub invariant-loop-self : goal.invariant-loop-self
invariant-loop-self l =
    (l.self-inside.operations ≡ l.initial.self-inside.operations)
    × IsIndex l.self-inside.operations.items (map (λ list. list.items) l.self-inside.places.items)
    × ((k : ℕ) → get_or l.fn.self.reserve k 0
    ≤ get_or (map (λ list. min (vec_capacity l.self-inside.operations - vec_len l.self-inside.operations)
    (vec_capacity list - vec_len list)) l.self-inside.places.items) k 0)
    × (l.count ≤ vec_capacity l.self-inside.places)

abbrev pub decreases-loop-self : goal.decreases-loop-self
decreases-loop-self l = l.count - vec_len l.self-inside.places
