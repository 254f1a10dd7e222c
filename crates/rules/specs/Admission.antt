-- Causal readiness: which operation may come next.
use Rattle.std.specs.Prelude.{ℕ, ◌+◌, Bool, not, ◌&&◌, List, [], ◌∷◌, Option, ◌==◌, find, count_by}
use Rattle.std.specs.Prelude.{is_some, option_map, map, flat_map}
use Rattle.std.specs.List.{list_any, range_with_len}
use Rattle.base_types.specs.Names.{Name}
use Rattle.base_types.specs.Vectors.{Vector, count_of, counts, covers}
use Rattle.rules.specs.declared.history.Op.{Op}
use Rattle.rules.specs.declared.refusal.Refusal.{Refusal}
use Rattle.rules.specs.declared.refusal.Refusal.TheVariants.{WrongSeq, OwnCount, Ahead, NotClosed}
use Rattle.rules.specs.Operations.{operation}

-- if it is true, its refusal applies
abbrev pub Condition : Type 0
Condition = Bool × Refusal

-- the refusal of the first condition that applies
abbrev pub first_that_applies : List Condition → Option Refusal
first_that_applies conditions = option_map (λ c. c.1) (find (λ c. c.0) conditions)

-- the names that a vector counts, in increasing order
abbrev pub names_counted : Vector → List Name
names_counted v = flat_map (λ pair. map (λ n. (pair.0, n)) (range_with_len 1 pair.1)) v

abbrev pub count_at_site : List Op → ℕ → ℕ
count_at_site h site = count_by (λ op. op.name.0 == site) h

abbrev pub has_wrong_seq : List Op → Name → Bool
has_wrong_seq h name = not (name.1 == count_at_site h name.0 + 1)

-- the vector does not count exactly the earlier operations of its own site
abbrev pub has_wrong_own_count : Name → Vector → Bool
has_wrong_own_count name v = not (count_of v name.0 + 1 == name.1)

abbrev pub is_ahead : List Op → Vector → Bool
is_ahead h v = list_any (λ name. not (is_some (operation h name))) (names_counted v)

-- the vector counts an operation, but not everything that the operation's vector counts
abbrev pub is_not_closed : List Op → Vector → Bool
is_not_closed h v = list_any (λ op. counts v op.name && not (covers v op.seen)) h

abbrev pub causal_conditions : List Op → Name → Vector → List Condition
causal_conditions h name v =
    (has_wrong_seq h name, WrongSeq) ∷ (has_wrong_own_count name v, OwnCount)
    ∷ (is_ahead h v, Ahead) ∷ (is_not_closed h v, NotClosed) ∷ []
