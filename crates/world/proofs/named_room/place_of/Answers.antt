use Rattle.std.proofs.Common.{bytes_eq, rules}
use Rattle.std.proofs.lemmas.Iterator.{YieldsList-from_slice}
use Rattle.std.proofs.lemmas.Iterator.Search.{position_from_yields_List}
use Rattle.world.proofs.Places.{place_of_found}
use Rattle.world.specs.steps.State.{Named}
use Rattle.world.proofs.named_room.place_of.Goals as goal

pub returns : goal.returns
returns c =
    place_of_found c.args.rooms.now c.args.name.now c.position.result
    (position_from_yields_List (λ (room : Named). bytes_eq room.name c.args.name.now) _ _ _ c.position.ensures.ran (YieldsList-from_slice c.args.rooms.now cc) (λ x b q k. search rules))
