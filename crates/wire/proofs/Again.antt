-- What is written of a value with whole numbers, texts and lists alone is read as the value.
use Rattle.std.proofs.Common.{◌≡◌, suc, [], ◌^◌, ◌<◌, ◌≤◌, ℤ, pos, negsuc, Some, option_map, option_and_then, refl, sym, ap, ◌∙◌, arith, append-nil}
use Rattle.std.specs.Prelude.{FitsSigned}
use Rattle.std.specs.Int.{w64}
use Rattle.json.specs.Json.{value, if_last}
use Rattle.json.specs.Print.{IsNumber}
use Rattle.json.specs.Tree as tree
use Rattle.json.proofs.Printed.Decimals.{IsNumber-decimal, IsNumber-signed_decimal}
use Rattle.json.proofs.Printed.Tokens.{tokens-print}
use Rattle.json.proofs.Printed.Trees.{value-json_tokens, ArePrintable-json_tokens}
use Rattle.serde_json.specs.Data.{Num, unsigned, negative, float, Data, null, boolean, number, string, array, object, Items, no_items, item, depth, items_depth}
use Rattle.serde_json.specs.Find.{of_integer}
use Rattle.serde_json.specs.Read.{number_of, of_json, of_items, read, max_depth}
use Rattle.serde_json.specs.Written.{number_text, outline, items_outline, compact_text}
use Rattle.serde_json.proofs.Numbers.{number_of-decimal, number_of-negative}
use Rattle.serde_json.proofs.Texts.{print-outline}

-- a whole number of 64 bits
abbrev pub IsHeldNumber : Num → Type 0
IsHeldNumber (unsigned n) = n < 2 ^ 64
IsHeldNumber (negative (pos n)) = ⊥
IsHeldNumber (negative (negsuc n)) = n < 2 ^ 63
IsHeldNumber (float x) = ⊥

-- all numbers of the value are whole and fit, and there is no other value in it than numbers, texts
-- and lists
abbrev mutual
  pub IsPlain : Data → Type 0
  IsPlain null = ⊥
  IsPlain (boolean b) = ⊥
  IsPlain (number n) = IsHeldNumber n
  IsPlain (string s) = Unit {0}
  IsPlain (array ds) = ArePlain ds
  IsPlain (object ms) = ⊥

  pub ArePlain : Items → Type 0
  ArePlain no_items = Unit {0}
  ArePlain (item d ds) = IsPlain d × ArePlain ds

pub held_integer : (z : ℤ) → FitsSigned w64 z → IsHeldNumber (of_integer z)
held_integer (pos n) h = omega arith
held_integer (negsuc n) h = omega arith

is_number : (n : Num) → IsHeldNumber n → IsNumber (number_text n)
is_number (unsigned n) h = IsNumber-decimal n h
is_number (negative (pos n)) h = absurd h
is_number (negative (negsuc n)) h = IsNumber-signed_decimal (negsuc n) (omega arith)
is_number (float x) h = absurd h

number_again : (n : Num) → IsHeldNumber n → number_of (number_text n) ≡ Some n
number_again (unsigned n) h = number_of-decimal n h
number_again (negative (pos n)) h = absurd h
number_again (negative (negsuc n)) h = number_of-negative n h
number_again (float x) h = absurd h

-- the value's JSON has numbers, nests as deep, and is seen as the value
record IsOutline (d : Data) : Type 0 where
  numbers : tree.HasNumbers (outline d)
  nests : tree.depth (outline d) ≡ depth d
  again : of_json (outline d) ≡ Some d

record AreOutlines (ds : Items) : Type 0 where
  numbers : tree.ItemsHaveNumbers (items_outline ds)
  nests : tree.items_depth (items_outline ds) ≡ items_depth ds
  again : of_items (items_outline ds) ≡ Some ds

mutual
  outlined : (d : Data) → IsPlain d → IsOutline d
  outlined null h = absurd h
  outlined (boolean b) h = absurd h
  outlined (number n) h = record { numbers = is_number n h; nests = refl; again = ap (option_map number) (number_again n h) }
  outlined (string s) h = record { numbers = tt; nests = refl; again = refl }
  outlined (array ds) h = let all = all_outlined ds h in record { numbers = all.numbers; nests = ap suc all.nests; again = ap (option_map array) all.again }
  outlined (object ms) h = absurd h

  all_outlined : (ds : Items) → ArePlain ds → AreOutlines ds
  all_outlined no_items h = record { numbers = tt; nests = refl; again = refl }
  all_outlined (item d ds) h =
      let first = outlined d h.0 in
      let rest = all_outlined ds h.1 in
      record { numbers = (first.numbers, rest.numbers); nests = rw (first.nests, rest.nests) refl; again = rw (first.again, rest.again) refl }

-- ---- the text

pub compact_again : (d : Data) → IsPlain d → depth d ≤ max_depth → read (compact_text d) ≡ Some d
compact_again d plain shallow =
    let o = outlined d plain in
    let ts = tree.json_tokens (outline d) in
    let same = tokens-print ts (ArePrintable-json_tokens (outline d) o.numbers) in
    let parsed = ap (value max_depth) (same ∙ sym (append-nil ts)) ∙ value-json_tokens (outline d) max_depth [] (omega (arith, o.nests)) in
    ap read (sym (print-outline d)) ∙ ap (λ r. option_and_then of_json (option_and_then (λ p. if_last p.0 p.1) r)) parsed ∙ o.again
