-- The end of a record.
use Rattle.std.specs.Prelude.{◌≡◌, ℕ, List, [], ◌∷◌, ◌++◌}
use Rattle.rules.specs.declared.history.Entry.{Entry}
use Rattle.rules.specs.declared.history.Entry.TheVariants.{Next}

-- the last entry of the record is its end, with this number of entries of the next one
pub record EndsWith (r : List Entry) (count : ℕ) : Type 0 where
  pub before : List Entry
  pub ended : r ≡ before ++ Next count ∷ []
