-- The text of a page.
use Rattle.std.specs.Prelude.{ℕ, List, [], ◌∷◌}
use Rattle.std.specs.List.{join_by}
use Rattle.rules.specs.declared.history.Entry.{Entry}
use Rattle.wire.specs.steps.Forms.{entry_text}

-- the texts of these entries, with commas between them
abbrev pub entries_text : List Entry → List ℕ
entries_text = join_by entry_text (44 ∷ [])
