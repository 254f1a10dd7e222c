-- How what was seen of a record differs from it.
use Rattle.std.specs.Prelude.{ℕ, ◌+◌, List, [], ◌∷◌, Option, Some, None, option_map}
use Rattle.std.specs.Prelude.{if◌then◌else◌}
use Rattle.rules.specs.declared.history.Entry.{Entry}
use Rattle.rules.specs.steps.Equality.{same_entry}

-- the first place, if there is one, at which the seen entry is not the record's or the record has
-- none
abbrev pub first_difference : List Entry → List Entry → Option ℕ
first_difference r [] = None
first_difference [] (e ∷ seen) = Some 0
first_difference (f ∷ r) (e ∷ seen) =
    if same_entry e f then option_map (λ place. place + 1) (first_difference r seen) else Some 0
