use Rattle.std.proofs.Common.{◌≡◌, ◌*◌, ◌≤◌, length}
use Rattle.std.specs.Prelude.{filter}
use Rattle.places.specs.steps.PlaceSet.{places}
use Rattle.places.specs.steps.Words.{has_bit}
use Rattle.places.proofs.words.count_bits.Given as goal

abbrev pub invariant-loop-word : goal.invariant-loop-word
invariant-loop-word l = record { counted : l.count ≡ length (filter (has_bit l.words) (places (64 * l.word-index))); few : l.count ≤ 64 * l.word-index }
