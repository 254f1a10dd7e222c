use Rattle.std.proofs.Common.{◌≡◌, [], List, map, sym, subst}
use Rattle.std.specs.Prelude.{All}
use Rattle.std.proofs.lemmas.List.Elements.{All-map}
use Rattle.std.proofs.lemmas.Result.{IfOk-weaker}
use Rattle.rules.specs.declared.history.Entry.{Entry}
use Rattle.room_core.specs.declared.room.RoomState.{RoomState}
use Rattle.room_lock.specs.steps.Planned.{Planned}
use Rattle.room_lock.proofs.making.NewRooms.plan.Goals as goal

pub returns-clause-empty : goal.returns-clause-empty
returns-clause-empty c =
    let states = c.in_ok-states.states.items in
    let entries_in : RoomState → List Entry = λ state. state.room.entries in
    let Empty : List Entry → Type 0 = λ r. r ≡ [] in
    let all = All-map Empty entries_in states c.in_ok-states.ensures.empty in
    IfOk-weaker c.apart.result (λ (planned : Planned). planned.records ≡ map entries_in states) (λ planned. All Empty planned.records)
    (λ planned is. subst (All Empty) (sym is) all) c.apart.ensures.records
