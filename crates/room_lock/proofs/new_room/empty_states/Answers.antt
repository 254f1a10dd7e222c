use Rattle.std.proofs.Common.{◌≡◌, [], ◌∷◌, length, ap, sym, subst, arith, length-append}
use Rattle.std.specs.Prelude.{All}
use Rattle.std.proofs.lemmas.List.Elements.{All-push}
use Rattle.room_core.specs.Room.{Room}
use Rattle.room_core.specs.declared.room.RoomState.{RoomState}
use Rattle.room_lock.proofs.new_room.empty_states.Goals as goal

pub loop-place-preserved : goal.loop-place-preserved
loop-place-preserved c =
    let i = c.loop-place.invariant in
    let old = c.loop-place.states.items in
    let new = c.in_ok-new.field-0 in
    let more = c.in_ok-push.ensures.items in
    let Limited : RoomState → Type 0 = λ state. state.room.limits ≡ c.args.limits in
    let Empty : RoomState → Type 0 = λ state. state.room.entries ≡ [] in (
      omega (arith, ap length more, length-append old (new ∷ []), i.0),
      subst (All Limited) (sym more) (All-push Limited old new i.1 (ap (λ (room : Room). room.limits) c.in_ok-new.ensures)),
      subst (All Empty) (sym more) (All-push Empty old new i.2 (ap (λ (room : Room). room.entries) c.in_ok-new.ensures)),
    )
