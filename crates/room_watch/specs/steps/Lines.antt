-- The lines that watching prints.
use Rattle.std.specs.Prelude.{ℕ, List, [], ◌∷◌, ◌++◌}
use Rattle.base_types.specs.Names.{Name}
use Rattle.rules.specs.declared.history.Entry.{Entry}
use Rattle.rules.specs.declared.history.Entry.TheVariants.{Join, Next, Operation}
use Rattle.rules.specs.Operations.{object_of}
use Rattle.late_join.specs.Shown.{shown}
use Rattle.wire.specs.Texts.{reply_text}

-- the line of what is shown of an object after these entries, with its LF
abbrev pub shown_line : List Entry → Name → List ℕ
shown_line r object = reply_text (shown r object) ++ 10 ∷ []

-- what an entry adds after these: the line of the object that it creates or changes
abbrev pub added_line : List Entry → Entry → List ℕ
added_line r (Join site) = []
added_line r (Next count) = []
added_line r (Operation op) = shown_line (r ++ Operation op ∷ []) (object_of op)

-- what further entries add after these, one after the other
abbrev pub added_lines : List Entry → List Entry → List ℕ
added_lines r [] = []
added_lines r (entry ∷ later) = added_line r entry ++ added_lines (r ++ entry ∷ []) later
