-- The rooms that were opened, by number.
use Rattle.std.specs.Prelude.{ℕ, List, [], slice_index_or}
use Rattle.openings.specs.Openings.{Opened}

-- stands for a room past the last one
abbrev pub never_opened : Opened
never_opened = record { place = 0; name = []; history = record { number = 0; log_name = 0; cells_name = 0 } }

abbrev pub opened_at : List Opened → ℕ → Opened
opened_at rooms number = slice_index_or rooms number never_opened
