-- Labels: the texts that name keys and kinds, and the first rooms of chains.
use Rattle.std.specs.Prelude.{ℕ, Bool, not, ◌&&◌, ◌||◌, ◌==◌, nat_le, nat_lt, List, length, Option}
use Rattle.std.specs.Prelude.{Some, option_map, is_none, position, if◌then◌else◌}
use Rattle.base_types.specs.declared.value.TheConstants.{MAX_VALUE_LEN}
use Rattle.base_types.specs.declared.fault.NameFault.{NameFault}
use Rattle.base_types.specs.declared.fault.NameFault.TheVariants.{Empty, TooLong, BadByte}

-- a text, as its bytes
abbrev pub Bytes : Type 0
Bytes = List ℕ

-- a-z, 0-9 or `-`
abbrev pub is_label_byte : ℕ → Bool
is_label_byte byte = (nat_le 97 byte && nat_le byte 122) || (nat_le 48 byte && nat_le byte 57)
    || (byte == 45)

-- the first fault of a label with this greatest length
unfoldable pub label_fault : ℕ → Bytes → Option NameFault
label_fault longest bytes =
    if length bytes == 0 then Some Empty
    else (if nat_lt longest (length bytes) then Some TooLong
    else option_map BadByte (position (λ byte. not (is_label_byte byte)) bytes))

-- 1 to this many bytes, each a-z, 0-9 or `-`
abbrev pub is_label : ℕ → Bytes → Bool
is_label longest bytes = is_none (label_fault longest bytes)

abbrev pub is_key : Bytes → Bool
is_key bytes = is_label 32 bytes

abbrev pub is_kind : Bytes → Bool
is_kind bytes = is_label 32 bytes

unfoldable pub is_value_text : Bytes → Bool
is_value_text bytes = nat_le (length bytes) MAX_VALUE_LEN
