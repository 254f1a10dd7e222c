-- Texts in quotes.
use Rattle.std.specs.Prelude.{ℕ, Bool, not, ◌&&◌, ◌==◌, nat_le}

-- the byte stands for itself between quotes: it is no control, no quote and no backslash
abbrev pub is_plain_byte : ℕ → Bool
is_plain_byte byte = nat_le 32 byte && (not (byte == 34) && not (byte == 92))
