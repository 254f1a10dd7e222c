use Rattle.scope.proofs.Targets.{room_of_target}
use Rattle.scope.proofs.laws.only_the_chain_of_the_target.Goals as goal

pub returns : goal.returns
returns c = room_of_target
