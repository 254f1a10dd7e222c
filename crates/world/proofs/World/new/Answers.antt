use Rattle.std.proofs.Common.{◌≡◌, sym, ap, subst, ◌∙◌, length}
use Rattle.world.specs.Rooms.{AreEmpty}
use Rattle.world.specs.steps.State.{WorldState, names_of, new_world, rooms_of}
use Rattle.world.proofs.Seated.{names_new, new_is_empty}
use Rattle.world.proofs.World.new.Goals as goal

abbrev is_new : (c : goal.After-new-seats) → record { rooms = c.in_ok-rooms.rooms.items; seats = c.new-seats.result.entries } ≡ new_world c.args.names.now c.args.limits
is_new c = λ i. record { rooms = c.in_ok-rooms.ensures i; seats = c.new-seats.ensures.empty i }

pub returns-clause-names : goal.returns-clause-names
returns-clause-names c = ap names_of (is_new c) ∙ names_new c.args.names.now c.args.limits

pub returns-clause-empty : goal.returns-clause-empty
returns-clause-empty c =
    subst (λ (s : WorldState). AreEmpty c.args.limits (length c.args.names.now) (rooms_of s)) (sym (is_new c)) (new_is_empty c.args.names.now c.args.limits)
