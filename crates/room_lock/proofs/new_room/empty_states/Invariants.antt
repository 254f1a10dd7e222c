use Rattle.std.proofs.Common.{◌≡◌, [], length}
use Rattle.std.specs.Prelude.{All}
use Rattle.room_lock.proofs.new_room.empty_states.Given as goal

abbrev pub invariant-loop-place : goal.invariant-loop-place
invariant-loop-place l =
    (length l.states.items ≡ l._place)
    × All (λ state. state.room.limits ≡ l.limits) l.states.items
    × All (λ state. state.room.entries ≡ []) l.states.items
