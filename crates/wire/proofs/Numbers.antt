-- The digits of numbers.
use Rattle.std.proofs.Common.{◌≤◌, ◌<◌, ◌^◌, ℕ, length, arith}
use Rattle.std.specs.Fmt.{decimal}
use Rattle.std.proofs.lemmas.Fmt.{length-decimal-le}

-- a number of 32 bits has at most ten digits
pub short : (n : ℕ) → n < 2 ^ 32 → length (decimal n) ≤ 10
short n h = length-decimal-le 10 n (omega arith) (omega arith) (omega arith)
