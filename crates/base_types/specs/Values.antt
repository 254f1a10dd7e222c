-- The values of attributes.
use Rattle.std.specs.Prelude.{Bool, false, bytes_eq}
use Rattle.std.specs.Ordering.{int_eq}
use Rattle.base_types.specs.declared.value.Value.{Value}
use Rattle.base_types.specs.declared.value.Value.TheVariants.{Number, Text}

abbrev pub same_value : Value → Value → Bool
same_value (Number x) (Number y) = int_eq x y
same_value (Text x) (Text y) = bytes_eq x y
same_value _ _ = false
