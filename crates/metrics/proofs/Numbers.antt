-- Numbers as they are written.
use Rattle.std.proofs.Common.{◌≡◌, ℕ, ◌/◌, ◌%◌, ◌-◌, [], ◌∷◌, ◌++◌, ap, sym, ◌∙◌, length, append-nil, append_assoc, arith}
use Rattle.std.specs.Fmt.{decimal, styled_decimal, padded_integral, char_count, format_spec}
use Rattle.metrics.specs.declared.number.Number.{Number}
use Rattle.metrics.specs.declared.number.Number.TheVariants.{Micros}
use Rattle.metrics.specs.Numbers.{number_text, six_digits}

-- `{:06}` writes six digits
padded : (n : ℕ) → styled_decimal (format_spec 32 0 4 6 18446744073709551615) n ≡ six_digits n
unfolding padded_integral char_count
padded n =
    let short : 6 - length (decimal n) - 0 - 0 ≡ 6 - length (decimal n) = omega arith in
    rw (short, append-nil)

pub seconds_written : (micros : ℕ) (number : Number) → number ≡ Micros micros
    → decimal (micros / 1000000) ++ 46 ∷ styled_decimal (format_spec 32 0 4 6 18446744073709551615) (micros % 1000000)
    ≡ number_text number
seconds_written micros number is =
    ap (λ digits. decimal (micros / 1000000) ++ 46 ∷ digits) (padded (micros % 1000000))
    ∙ sym (append_assoc (decimal (micros / 1000000)) (46 ∷ []) (six_digits (micros % 1000000)))
    ∙ ap number_text (sym is)
