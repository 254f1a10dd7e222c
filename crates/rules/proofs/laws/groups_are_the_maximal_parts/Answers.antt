use Rattle.rules.proofs.Groups.{groups_of_is}
use Rattle.rules.proofs.laws.groups_are_the_maximal_parts.Goals as goal

pub returns : goal.returns
returns g c = λ conflict s part once. groups_of_is conflict s part once
