use Rattle.std.proofs.Common.{◌≡◌, ◌∙◌, ap, List, ℕ}
use Rattle.std.specs.Prelude.{is_none}
use Rattle.base_types.specs.RoomNames.{room_name_fault, is_room_name}
use Rattle.base_types.proofs.RoomNames.{label_is_name}
use Rattle.base_types.proofs.room_name.RoomName.parse_first.Goals as goal

pub invariant_of-result : goal.invariant_of-result
invariant_of-result c =
    ap (λ (name : List ℕ). is_room_name name) c.in_ok-text.ensures.ok.0 ∙ ap is_none (label_is_name _ c.in_ok-text.ensures.ok.1)
