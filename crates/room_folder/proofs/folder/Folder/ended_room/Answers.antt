use Rattle.std.proofs.Common.{◌≡◌, ◌∙◌, sym, ap}
use Rattle.base_types.specs.RoomNames.{first_name}
use Rattle.room_folder.proofs.Chains.{successor_first}
use Rattle.room_folder.proofs.folder.Folder.ended_room.Goals as goal

pub invariant_of-result : goal.invariant_of-result
invariant_of-result g c = record {
  of_chain = successor_first _ _ (sym c.in-Some-2.is ∙ c.in_ok-next.ensures) ∙ ap first_name (sym c.in_ok-name.ensures);
}
