use Rattle.std.proofs.Common.{sym, subst}
use Rattle.base_types.specs.Texts.{Bytes}
use Rattle.room_lock.specs.Rooms.{IsOnDemand}
use Rattle.keeper.proofs.forgets.ForgetsKeeper.open.Goals as goal

pub open-requires-clause-on_demand : goal.open-requires-clause-on_demand
open-requires-clause-on_demand g c = subst (λ (name : Bytes). IsOnDemand c.args.rooms.now name) (sym c.in_ok-copied.ensures) c.requires
