use Rattle.places.proofs.Growth.{changes_on_object}
use Rattle.conflict.proofs.laws.the_changes_of_a_history_can_be_added.Goals as goal

pub returns : goal.returns
returns c = λ h object i o f. changes_on_object i o f object
