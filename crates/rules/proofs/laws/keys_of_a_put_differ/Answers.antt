use Rattle.rules.proofs.Keys.{pairs_differ}
use Rattle.rules.proofs.laws.keys_of_a_put_differ.Goals as goal

pub returns : goal.returns
returns c = pairs_differ
