use Rattle.std.proofs.Common.{◌∙◌, arith}
use Rattle.std.proofs.lemmas.List.{length-map}
use Rattle.rules.specs.declared.history.Entry.{Entry}
use Rattle.std.proofs.Common.{List}
use Rattle.room_core.specs.declared.room.RoomState.{RoomState}
use Rattle.room_lock.proofs.making.NewRooms.apart.Goals as goal

pub invariant_of-result : goal.invariant_of-result
invariant_of-result c =
    let entries_in : RoomState → List Entry = λ state. state.room.entries in (
      record {
        counted = length-map c.args.states.items entries_in ∙ c.requires.counted;
        few = omega (arith, c.if-len-gt-MAX_ROOMS.false, c.len.ensures);
        few_others = omega arith;
        apart = c.requires.apart;
      },
      c.requires.limits,
    )
