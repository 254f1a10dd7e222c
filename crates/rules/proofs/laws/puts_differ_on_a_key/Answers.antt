use Rattle.rules.proofs.Bodies.{differ_is}
use Rattle.rules.proofs.laws.puts_differ_on_a_key.Goals as goal

pub returns : goal.returns
returns c = differ_is
