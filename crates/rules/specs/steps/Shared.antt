-- The operation that an entry of a record holds.
use Rattle.std.specs.Prelude.{[]}
use Rattle.rules.specs.declared.history.Op.{Op}
use Rattle.rules.specs.declared.history.Body.TheVariants.{New}
use Rattle.rules.specs.declared.history.Entry.{Entry}
use Rattle.rules.specs.declared.history.Entry.TheVariants.{Join, Operation, Next}

-- of an entry that holds none, one that does nothing
abbrev pub held : Entry → Op
held (Join site) = record { name = (site, 0); seen = []; body = New [] [] }
held (Operation op) = op
held (Next count) = record { name = (0, 0); seen = []; body = New [] [] }
