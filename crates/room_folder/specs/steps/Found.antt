-- The bytes of a room's file.
use Rattle.std.specs.Prelude.{ℕ, List, [], Option, Some, None}

-- the bytes that an opened file has left, if they are known; a room without a file has none
abbrev pub bytes_in : {F : Type 0} → (F → Option (List ℕ)) → Option F → Option (List ℕ)
bytes_in remaining None = Some []
bytes_in remaining (Some file) = remaining file
