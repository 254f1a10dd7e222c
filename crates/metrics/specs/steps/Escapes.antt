-- The escapes of a place.
use Rattle.std.specs.Prelude.{ℕ}
use Rattle.base_types.specs.Texts.{Bytes}
use Rattle.metrics.specs.declared.escape.Place.{Place}
use Rattle.metrics.specs.declared.escape.Place.TheVariants.{Help, LabelValue}
use Rattle.metrics.specs.Families.{help_byte, value_byte}

-- a byte as it is written at a place
abbrev pub escaped_byte : Place → ℕ → Bytes
escaped_byte Help = help_byte
escaped_byte LabelValue = value_byte
