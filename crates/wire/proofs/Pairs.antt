-- Pairs of numbers as text.
use Rattle.std.proofs.Common.{◌<◌, ◌∷◌, [], ◌++◌, ◌^◌, ℕ, zero, suc, List, arith}
use Rattle.std.specs.Fmt.{decimal}
use Rattle.std.specs.Str.{IsUtf8, IsAscii}
use Rattle.std.proofs.lemmas.Fmt.{IsAscii-decimal}
use Rattle.std.proofs.lemmas.Str.{IsAscii-append, IsUtf8-from_ascii}

one : (byte : ℕ) → byte < 128 → IsAscii (byte ∷ [])
one byte low zero = low
one byte low (suc i) = omega arith

-- a byte, a number and more of ASCII
after : (byte n : ℕ) (rest : List ℕ) → byte < 128 → n < 2 ^ 32 → IsAscii rest → IsAscii (byte ∷ (decimal n ++ rest))
after byte n rest low few h = IsAscii-append (byte ∷ []) (decimal n ++ rest) (one byte low) (IsAscii-append (decimal n) rest (IsAscii-decimal n (omega arith)) h)

pub pair_is_utf8 : (first second : ℕ) → first < 2 ^ 32 → second < 2 ^ 32 → IsUtf8 (91 ∷ (decimal first ++ 44 ∷ (decimal second ++ 93 ∷ [])))
pair_is_utf8 first second f s =
    IsUtf8-from_ascii _ (after 91 first _ (omega arith) f (after 44 second (93 ∷ []) (omega arith) s (one 93 (omega arith))))
