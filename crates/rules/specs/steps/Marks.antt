-- Marks of keys, by which most different keys are told apart.
use Rattle.std.specs.Prelude.{◌≡◌, ℕ, ◌-◌, ◌%◌, true, false, All, Bool, List, length, slice_index_or}
use Rattle.rules.specs.AttrLists.{Attr}

-- the mark of a key goes by its last byte
abbrev pub mark_of : List ℕ → ℕ
mark_of key = slice_index_or key (length key - 1) 0 % 64

-- the marks of these attributes' keys are there
abbrev pub HaveMarks : List Bool → List Attr → Type 0
HaveMarks marks = All (λ attr. slice_index_or marks (mark_of attr.0) false ≡ true)
