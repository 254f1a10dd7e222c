-- Changes of places as words of 64 bits, the lowest places first.
use Rattle.std.specs.Prelude.{ℕ, Bool, List, ◌*◌, ◌/◌, ◌%◌, ◌==◌, slice_index, filter, length}
use Rattle.std.specs.Prelude.{bit_and, bit_xor}
use Rattle.std.specs.Int.{bit_at}
use Rattle.places.specs.steps.PlaceSet.{places}

-- do the words have a place?
unfoldable pub has_bit : List ℕ → ℕ → Bool
has_bit words place = bit_at (slice_index words (place / 64)) (place % 64) == 1

-- the places that the words have
unfoldable pub places_in : List ℕ → List ℕ
places_in words = filter (has_bit words) (places (64 * length words))

-- what the words of two sets have in common at k
abbrev pub common_word : List ℕ → List ℕ → ℕ → ℕ
common_word first second k = bit_and (slice_index first k) (slice_index second k)

-- what the first has at k, and the second has not
abbrev pub rest_word : List ℕ → List ℕ → ℕ → ℕ
rest_word first second k = bit_xor (slice_index first k) (common_word first second k)
