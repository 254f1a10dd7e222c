use Rattle.rules.proofs.Lists.{Contains-from_In}
use Rattle.rules.proofs.Decided.{value_is_last}
use Rattle.rules.proofs.laws.the_last_put_of_a_key_decides.Goals as goal

pub returns : goal.returns
returns c = λ h g initial key compatible ordered own. value_is_last h g g compatible (λ x m. m) (λ x m. m) ordered (λ x m. own x (Contains-from_In x g m)) initial key
