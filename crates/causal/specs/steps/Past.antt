-- What a past is: the operations so far, and the memory for more.
use Rattle.std.specs.Prelude.{ℕ, List}
use Rattle.rules.specs.declared.history.Op.{Op}

-- the operations in the order in which they were added, and for each site with a list, from site 1
-- on, for how many more of its operations there is memory
pub record PastState : Type 0 where
  pub history : List Op
  pub reserve : List ℕ
