use Rattle.rules.proofs.Changes.{known_is}
use Rattle.rules.proofs.laws.known_are_the_changes_before.Goals as goal

pub returns : goal.returns
returns c = λ h a b i m. known_is h a b i m
