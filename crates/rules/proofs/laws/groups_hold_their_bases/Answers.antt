use Rattle.rules.proofs.Nested.{group_holds_bases}
use Rattle.rules.proofs.laws.groups_hold_their_bases.Goals as goal

pub returns : goal.returns
returns c = λ h s g i group there closed a u m based. group_holds_bases i s g group there closed a u m based
