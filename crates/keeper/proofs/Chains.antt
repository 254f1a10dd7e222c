-- A room that a test finds in a chain, with a greater number, is a later one.
use Rattle.std.proofs.Common.{◌≡◌, ◌<◌, ℕ, Bool, true, bytes_eq, sym, subst, ◌∙◌, arith}
use Rattle.std.proofs.lemmas.Slice.Eq.{bytes_eq-Decides}
use Rattle.base_types.specs.Texts.{Bytes}
use Rattle.base_types.specs.RoomNames.{first_name, is_in_chain, room_number}
use Rattle.keeper.specs.Chains.{IsLater}

pub later_is : (name first later : Bytes) (number later_number : ℕ) → first ≡ first_name name → is_in_chain first later ≡ true → number ≡ room_number name → later_number ≡ room_number later → number < later_number → IsLater name later
later_is name first later number later_number of_name in_chain value later_value below = record {
  chain = (bytes_eq-Decides (first_name later) first).0 in_chain ∙ of_name;
  order = omega (arith, value, later_value, below);
}
