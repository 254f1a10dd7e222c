use Rattle.rules.proofs.Drops.{shown_as_gone, dropped_if_gone, shown_as_attributes}
use Rattle.rules.proofs.laws.a_group_with_a_drop_is_gone.Goals as goal

pub returns-clause-gone : goal.returns-clause-gone
returns-clause-gone c = shown_as_gone

pub returns-clause-dropped : goal.returns-clause-dropped
returns-clause-dropped c = dropped_if_gone

pub returns-clause-others : goal.returns-clause-others
returns-clause-others c = shown_as_attributes
