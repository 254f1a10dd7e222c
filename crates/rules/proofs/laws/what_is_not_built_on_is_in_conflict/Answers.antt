use Rattle.rules.proofs.Nested.{left_out_conflicts}
use Rattle.rules.proofs.laws.what_is_not_built_on_is_in_conflict.Goals as goal

pub returns : goal.returns
returns c = λ h a b g i m e k out. left_out_conflicts i a b g m e k out
