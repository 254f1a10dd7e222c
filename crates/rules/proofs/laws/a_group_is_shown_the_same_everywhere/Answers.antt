use Rattle.rules.proofs.Attributes.{same_shown}
use Rattle.rules.proofs.laws.a_group_is_shown_the_same_everywhere.Goals as goal

pub returns : goal.returns
returns c = same_shown
