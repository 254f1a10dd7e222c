use Rattle.rules.specs.Operations.{is_change_on}
use Rattle.rules.proofs.Objects.{base_kept, conflict_kept}
use Rattle.conflict.proofs.laws.the_changes_alone_decide.Goals as goal

pub returns-clause-base : goal.returns-clause-base
returns-clause-base c = λ h object b on. base_kept object (is_change_on object) (λ x e. e) h b on

pub returns-clause-conflict : goal.returns-clause-conflict
returns-clause-conflict c = λ h object a b on also. conflict_kept object (is_change_on object) (λ x e. e) h a b on also
