-- Numbers as the text form shows them.
use Rattle.std.specs.Prelude.{ℕ, ◌-◌, ◌/◌, ◌%◌, ◌++◌, codes, length, replicate}
use Rattle.std.specs.Fmt.{decimal}
use Rattle.base_types.specs.Texts.{Bytes}
use Rattle.metrics.specs.declared.number.Number.{Number}
use Rattle.metrics.specs.declared.number.Number.TheVariants.{Whole, Micros}

-- with zeros before it up to six digits
abbrev pub six_digits : ℕ → Bytes
six_digits number = replicate (6 - length (decimal number)) 48 ++ decimal number

abbrev pub seconds_text : ℕ → Bytes
seconds_text micros = decimal (micros / 1000000) ++ codes "." ++ six_digits (micros % 1000000)

abbrev pub number_text : Number → Bytes
number_text (Whole number) = decimal number
number_text (Micros micros) = seconds_text micros
