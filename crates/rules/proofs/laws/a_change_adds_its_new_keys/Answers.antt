use Rattle.rules.proofs.Keys.{keys_with, keys_with_put}
use Rattle.rules.proofs.laws.a_change_adds_its_new_keys.Goals as goal

pub returns-clause-keys : goal.returns-clause-keys
returns-clause-keys c = keys_with

pub returns-clause-of_a_put : goal.returns-clause-of_a_put
returns-clause-of_a_put c = keys_with_put
