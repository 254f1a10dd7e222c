-- What a line of a script is read as.
use Rattle.std.specs.Prelude.{ℕ, ◌+◌, ◌-◌, ◌*◌, ◌^◌, ◌==◌, ◌&&◌, nat_lt, List, [], ◌∷◌}
use Rattle.std.specs.Prelude.{Option, Some, None, if◌then◌else◌}
use Rattle.std.specs.Char.{is_ascii_digit}
use Rattle.world.specs.Alone.{Message}

-- after the digits of this number: further digits, a space, and the message
abbrev pub number_then : ℕ → List ℕ → Option Message
number_then value [] = None
number_then value (byte ∷ bytes) =
    if byte == 32 then Some (record { session = value; bytes = bytes })
    else
    (if is_ascii_digit byte && nat_lt 0 value && nat_lt (value * 10 + (byte - 48)) (2 ^ 32)
    then number_then (value * 10 + (byte - 48)) bytes else None)

-- the session and the message that a line is, if it is of that form
abbrev pub message_in : List ℕ → Option Message
message_in [] = None
message_in (byte ∷ bytes) = if is_ascii_digit byte then number_then (byte - 48) bytes else None
