use Rattle.rules.proofs.Changes.{changes_on_is}
use Rattle.rules.proofs.laws.changes_on_an_object.Goals as goal

pub returns : goal.returns
returns c = changes_on_is
