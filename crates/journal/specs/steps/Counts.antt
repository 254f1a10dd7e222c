-- What a journal over a file counts.
use Rattle.std.specs.Prelude.{ℕ, Bool}

-- The number of bytes that are held and that are kept, and whether a call failed since the last
-- cut.
pub record Counts : Type 0 where
  pub held : ℕ
  pub kept : ℕ
  pub failed : Bool
