use Rattle.rules.proofs.Bases.{base_is_group}
use Rattle.rules.proofs.laws.base_is_the_named_group.Goals as goal

pub returns : goal.returns
returns c = λ h b g i m. base_is_group i b m g
