-- The contents of a journal in memory.
use Rattle.std.specs.Prelude.{◌≡◌, ◌≤◌, ◌++◌, ℕ, List, take}
use Rattle.journal.specs.declared.failures.Failures.{Failures}

-- what is held, what of it is kept, and which calls fail
pub record Contents : Type 0 where
  pub held : List ℕ
  pub kept : List ℕ
  pub failures : Failures

-- a prefix of the bytes, of at most `leaves`, was appended
pub record AppendsAtMost (leaves : ℕ) (old new bytes : List ℕ) : Type 0 where
  pub count : ℕ
  pub within : count ≤ leaves
  pub adds : new ≡ old ++ take count bytes
