use Rattle.rules.proofs.Attributes.{one_decision}
use Rattle.rules.proofs.laws.deciding_operations_agree.Goals as goal

pub returns : goal.returns
returns c = λ h object g key a b i group ma da mb db. one_decision h object g key a b group ma da mb db
