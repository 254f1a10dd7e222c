use Rattle.std.proofs.Common.{◌≡◌}
use Rattle.openings.proofs.register.Register.try_enter.Given as goal

abbrev pub invariant-loop : goal.invariant-loop
invariant-loop g l =
    (goal.iterator-loop g).can_next l.iterator' × (goal.iterator-loop g).is_finite l.iterator'
    × (l.self ≡ l.initial.self)
