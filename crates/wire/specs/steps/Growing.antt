-- The texts of names behind others.
use Rattle.std.specs.Prelude.{ℕ, List, ◌∷◌}
use Rattle.std.specs.List.{flat_map}
use Rattle.serde_json.specs.Written.{compact_text}
use Rattle.wire.specs.Form.{name_form}

-- the text of a name behind a comma
abbrev pub next_name : ℕ × ℕ → List ℕ
next_name name = 44 ∷ compact_text (name_form name)

-- and those of names, one after another
abbrev pub next_names : List (ℕ × ℕ) → List ℕ
next_names = flat_map next_name
