-- Names of rooms. A chain of rooms is NAME, NAME.2, NAME.3: each goes on where the one before ended.
use Rattle.std.specs.Prelude.{ℕ, ◌+◌, Bool, not, ◌&&◌, ◌||◌, ◌==◌, nat_le, nat_lt, List, [], ◌∷◌, ◌++◌, length, slice_index, bytes_eq, decimal}
use Rattle.std.specs.Prelude.{Option, Some, None, is_none, if◌then◌else◌}
use Rattle.std.specs.List.{before_first, after_first, list_all}
use Rattle.std.specs.Char.{is_ascii_digit}
use Rattle.std.specs.Str.Parse.{digits_value}
use Rattle.base_types.specs.Texts.{Bytes, is_label, label_fault}
use Rattle.base_types.specs.declared.room_name.TheConstants.{MAX_ROOM_LEN, MAX_ROOM_NUMBER}
use Rattle.base_types.specs.declared.fault.NameFault.{NameFault}
use Rattle.base_types.specs.declared.fault.NameFault.TheVariants.{TooLong, BadNumber}

abbrev pub is_dot : ℕ → Bool
is_dot byte = byte == 46

-- the name of the chain's first room: what stands before the first dot
abbrev pub first_name : Bytes → Bytes
first_name name = before_first is_dot name

abbrev pub has_no_dot : Bytes → Bool
has_no_dot name = length (first_name name) == length name

abbrev pub is_short_numeral : Bytes → Bool
is_short_numeral digits = nat_lt 0 (length digits) && nat_le (length digits) 6 && list_all is_ascii_digit digits

-- a number from 2 to 999999, without leading zeros
unfoldable pub is_successor_number : Bytes → Bool
is_successor_number digits =
    is_short_numeral digits && not (slice_index digits 0 == 48) && not (bytes_eq digits (49 ∷ []))

-- the first fault of a room's name: NAME, or NAME.N
unfoldable pub room_name_fault : Bytes → Option NameFault
room_name_fault name =
    if nat_lt MAX_ROOM_LEN (length name) then Some TooLong
    else (if has_no_dot name || is_successor_number (after_first is_dot name) then label_fault MAX_ROOM_LEN (first_name name)
    else Some BadNumber)

-- NAME or NAME.N, of at most 64 bytes: NAME a label, N from 2 to 999999 without leading zeros
abbrev pub is_room_name : Bytes → Bool
is_room_name name = is_none (room_name_fault name)

abbrev pub is_first_name : Bytes → Bool
is_first_name name = is_label MAX_ROOM_LEN name

-- the room's place in its chain, from 1
unfoldable pub room_number : Bytes → ℕ
room_number name = if has_no_dot name then 1 else digits_value 10 (after_first is_dot name)

-- the name of the room with this number in the chain of this name
abbrev pub numbered : Bytes → ℕ → Bytes
numbered first number = first ++ (46 ∷ decimal number)

-- the name of the next room of the chain, if it is a room's name
unfoldable pub successor : Bytes → Option Bytes
successor name =
    if nat_lt (room_number name) MAX_ROOM_NUMBER && nat_le (length (numbered (first_name name) (room_number name + 1))) MAX_ROOM_LEN
    then Some (numbered (first_name name) (room_number name + 1)) else None

abbrev pub is_in_chain : Bytes → Bytes → Bool
is_in_chain first name = bytes_eq (first_name name) first
