-- Repeated members of a list.
use Rattle.std.specs.Prelude.{ℕ, ◌+◌, Bool, List, [], ◌∷◌, ◌++◌, Option, Some, None, if◌then◌else◌}
use Rattle.std.specs.List.{list_any}

abbrev pub repeat_from : {X : Type 0} → (X → X → Bool) → ℕ → List X → List X → Option ℕ
repeat_from same place earlier [] = None
repeat_from same place earlier (x ∷ xs) =
    if list_any (λ y. same y x) earlier then Some place
    else repeat_from same (place + 1) (earlier ++ x ∷ []) xs

-- the first place whose member is also at an earlier place
abbrev pub first_repeat : {X : Type 0} → (X → X → Bool) → List X → Option ℕ
first_repeat same xs = repeat_from same 0 [] xs
